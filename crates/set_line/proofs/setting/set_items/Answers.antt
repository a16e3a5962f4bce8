use Rattle.std.proofs.Common.{arith, rules, ap, ◌∙◌, w64}
use Rattle.std.proofs.lemmas.Int.{to_z-of_z}
use Rattle.std.proofs.lemmas.List.{map-id}
use Rattle.set_line.specs.Width.{total_width}
use Rattle.set_line.proofs.AnswerLemmas.{none_met, none_there, outcome_set_as, outcome_steps, refusal_long}
use Rattle.set_line.proofs.setting.set_items.Goals as goal

pub returns-then-line-gt-MOST_BYTES : goal.returns-then-line-gt-MOST_BYTES
returns-then-line-gt-MOST_BYTES c = λ none.
    let long = refusal_long c.args.terms.now c.args.line.now c.if-line-gt-MOST_BYTES.true in
    absurd (cc)

pub returns-in_default : goal.returns-in_default
returns-in_default c = λ none.
    outcome_steps c.args.terms.now c.args.line.now c.reserve.new.self.items none (grind arith)
    (rw c.in_default.is at (c.in_ok-steps.ensures.reached (none_there c.args.terms.now c.args.line.now none)))

pub returns : goal.returns
returns c =
    let none = rw c.in-Some.is at c.in_ok-steps.ensures.none in
    outcome_set_as c.args.terms.now c.args.line.now c.in-Some.steps c.reserve.new.self.items c.set_stretch.new.items.items c.new.result _
    (none_met c.args.terms.now c.args.line.now c.if-line-gt-MOST_BYTES.false none) (grind arith) (rw c.in-Some.is at (c.in_ok-steps.ensures.reached none)) (grind arith)
    (to_z-of_z w64 c.total_width-width.result (search rules) ∙ c.total_width-width.ensures ∙ ap total_width (map-id c.deref.result.now) ∙ ap total_width {x = c.deref.result.now} {y = c.set_stretch.new.items.items} (grind arith))
