use Rattle.std.proofs.Common.{◌≡◌, ◌++◌, rules, ap, ◌∙◌}
use Rattle.std.specs.List.{concat}
use Rattle.run_texts.specs.LaneText.{LaneTextValue}
use Rattle.run_texts.proofs.RunTextLemmas.{joined_more}
use Rattle.run_texts.proofs.lane_text.LaneText.begin_buffer.Goals as goal

pub returns-in-Ok-clause-as_before : goal.returns-in-Ok-clause-as_before
returns-in-Ok-clause-as_before c =
    let same : concat c.push.new.self.items ++ c.replace.new.dest.items ≡ concat c.self.inside.full.items ++ c.self.inside.last.items =
    joined_more c.self.inside.full.items c.push.new.self.items c.self.inside.last.items c.replace.new.dest.items (search rules) (search rules) in
    let value : LaneTextValue = c.args.self.now in
    let shown : record { text = concat c.self.inside.full.items ++ c.self.inside.last.items; records = c.self.inside.count.records; refused = c.self.inside.count.refused } ≡ value = search rules in
    ap (λ t. record { text = t; records = c.self.inside.count.records; refused = c.self.inside.count.refused }) same ∙ shown
