use Rattle.std.proofs.Common.{◌≡◌, ◌++◌, rules, subst}
use Rattle.std.specs.Io.KnownBytes.{Appends}
use Rattle.std.specs.List.{concat}
use Rattle.run_texts.proofs.RunTextLemmas.{appends_more}
use Rattle.run_texts.proofs.lane_text.LaneText.write.Goals as goal

pub returns-clause-written : goal.returns-clause-written
returns-clause-written g c =
    let all : concat c.self.inside.full.items ++ c.self.inside.last.items ≡ c.args.self.text = search rules in
    subst (Appends (g.W.Write.contents c.args.out.now) (g.W.Write.contents c.write_text.new.out)) all
    (appends_more (g.W.Write.contents c.args.out.now) (g.W.Write.contents c.write_buffers.new.out) (g.W.Write.contents c.write_text.new.out)
    (concat c.self.inside.full.items) c.self.inside.last.items (search rules) (search rules))
