use Rattle.std.proofs.Common.{◌≡◌, length, drop, map, arith, rules, ap, ◌∙◌, w64}
use Rattle.std.specs.Prelude.{Err}
use Rattle.std.proofs.lemmas.Grind.{common_steps}
use Rattle.std.proofs.lemmas.Int.{to_z-of_z}
use Rattle.std.proofs.lemmas.List.{take_rest}
use Rattle.set_line.specs.Width.{total_width}
use Rattle.spans.proofs.OutcomeLemmas.{placed_is, steps_are}
use Rattle.spans.proofs.setting.set_span.Goals as goal

pub returns-in-Ok-set_run_of-clause-ok : goal.returns-in-Ok-set_run_of-clause-ok
returns-in-Ok-set_run_of-clause-ok g c = λ value is.
    let added : c.total_width.result ≡ total_width (map g.O.RunItem.alone (drop (length c.args.out.now.items) c.set_run_of.new.out.items)) =
    grind (arith, common_steps, take_rest c.set_run_of.new.out.items (length c.args.out.now.items), c.total_width.ensures) in
    placed_is g.O.RunItem.made g.O.RunItem.alone g.met.O.RunItem.keeps value c.args.text.now c.args.span.now c.args.limit
    c.args.out.now.items c.set_run_of.new.out.items _ (c.in-Ok.ensures.refusal value is)
    (rw c.get.ensures.value at (rw c.in-Ok.ensures.codes.are at (c.in-Ok-set_run_of.ensures.set value is)))
    (to_z-of_z w64 c.total_width.result (search rules) ∙ added) (grind arith)

pub returns-in-Err-TooManySteps-clause-ok : goal.returns-in-Err-TooManySteps-clause-ok
returns-in-Err-TooManySteps-clause-ok g c = λ value is.
    steps_are value c.args.text.now c.args.span.now c.args.limit (c.in-Ok.ensures.refusal value is)
    (rw c.get.ensures.value at (rw c.in-Ok.ensures.codes.are at
    (c.set_run_of.ensures.too_many value is (c.in-Err-TooManySteps.is ∙ ap Err c.in-Err-TooManySteps.field-0-is))))
