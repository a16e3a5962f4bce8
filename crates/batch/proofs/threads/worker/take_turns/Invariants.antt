-- the setter is of the same lane
use Rattle.lanes.specs.Ends.{SameSetter}
use Rattle.batch.proofs.threads.worker.take_turns.Given as goal

abbrev pub invariant-loop-moves : goal.invariant-loop-moves
invariant-loop-moves g l = SameSetter l.initial.setter l.setter
