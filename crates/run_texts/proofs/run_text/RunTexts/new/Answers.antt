use Rattle.std.proofs.Common.{◌≡◌, ◌+◌, ◌++◌, [], ◌∷◌, length, ap, rules, ◌∙◌}
use Rattle.run_texts.proofs.LaneTextLemmas.{kept_begun, length_more}
use Rattle.run_texts.proofs.run_text.RunTexts.new.Goals as goal

pub loop-preserved : goal.loop-preserved
loop-preserved g c =
    let more : c.push.new.self.items ≡ c.loop.lanes.items ++ c.new.result ∷ [] = search rules in
    record {
      count = ap length more ∙ length_more c.loop.lanes.items c.new.result ∙ ap (λ n. n + 1) c.loop.invariant.count;
      kept = kept_begun c.args.version 0 c.loop.lanes.items c.push.new.self.items c.new.result more (search rules) c.loop.invariant.kept;
    }
