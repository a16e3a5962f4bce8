use Rattle.std.proofs.Common.{rules, arith, refl}
use Rattle.std.proofs.lemmas.Int.{to_z-of_z}
use Rattle.line_records.proofs.StepLemmas.{ligature_step, entry_step}
use Rattle.line_records.proofs.stepping.step.Goals as goal

pub returns-then-cell-entries-clause-step : goal.returns-then-cell-entries-clause-step
returns-then-cell-entries-clause-step c = λ style are.
    entry_step style c.args.entries.now c.args.cells.now c.args.before _ c.args.next c.from-cell.result _ c.index-entries-cell.result c.args.room.now c.put.new.place
    are (search rules) c.requires.next (search rules) (search rules) c.index-entries-cell.is (search rules) c.requires.room (grind arith)
    refl (grind arith) (grind arith) (grind arith) (search (rules, to_z-of_z))

pub returns-clause-step : goal.returns-clause-step
returns-clause-step c = λ style are.
    ligature_step style c.args.entries.now c.args.cells.now c.args.before _ c.args.next c.from-cell.result c.args.room.now
    are (search rules) c.requires.next (search rules) (grind arith) refl refl refl refl (search (rules, to_z-of_z))
