-- the same end
use Rattle.lanes.specs.Ends.{SameSetter}
use Rattle.lane_tests.proofs.tests.threads.set_all.Given as goal

abbrev pub invariant-loop : goal.invariant-loop
invariant-loop g l = SameSetter l.initial.setter l.setter
