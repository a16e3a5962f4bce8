use Rattle.std.proofs.Common.{arith, length, drop, subst, ◌∙◌}
use Rattle.line_records.specs.Cells.{AreCells}
use Rattle.line_records.proofs.WrittenLemmas.{step_back}
use Rattle.line_records.proofs.writing.step_anew.Goals as goal

pub returns-clause-step : goal.returns-clause-step
returns-clause-step c =
    step_back c.args.table.now c.args.before c.args.next c.make_room.new.room.len c.args.room.now.items c.make_room.new.room.items c.step.new.room
    (drop (length c.step.new.room) c.make_room.new.room.items) c.step.result
    (grind (arith, c.make_room.new.room.ok.0)) c.make_room.ensures.kept
    (rw c.as_mut_slice.ensures.value at (c.step.ensures.step c.args.table.now
    (rw c.as_slice.ensures.value (rw c.as_slice-2.ensures.value (subst (λ f. AreCells f c.table.inside.entries.items c.table.inside.cells.items)
    (c.table.view_is ∙ c.make.ensures) c.table.invariant)))))
