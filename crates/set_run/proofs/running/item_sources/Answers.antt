use Rattle.std.proofs.Common.{rules, ◌≡◌, ◌++◌, [], ◌∷◌, ap, ◌∙◌}
use Rattle.set_run.proofs.running.item_sources.Goals as goal

pub loop-pair-preserved : goal.loop-pair-preserved
loop-pair-preserved g c =
    let more : c.push.new.self.items ≡ c.loop-pair.made.items ++ c.item_source.result ∷ [] = search rules in
    more ∙ ap (λ xs. xs ++ c.item_source.result ∷ []) c.loop-pair.invariant
    ∙ ap (λ pair. c.loop-pair.yielded ++ pair ∷ []) c.item_source.ensures
