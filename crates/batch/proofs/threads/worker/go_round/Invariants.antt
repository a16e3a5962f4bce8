-- the setters are of the same lanes
use Rattle.std.specs.List.{AllZip}
use Rattle.lanes.specs.Ends.{SameSetter}
use Rattle.batch.proofs.threads.worker.go_round.Given as goal

abbrev pub invariant-loop-i : goal.invariant-loop-i
invariant-loop-i g l = AllZip SameSetter l.initial.worker-inside.setters.items l.worker-inside.setters.items
