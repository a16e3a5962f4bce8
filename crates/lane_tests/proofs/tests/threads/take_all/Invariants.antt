-- the same end
use Rattle.lanes.specs.Ends.{SameTaker}
use Rattle.lane_tests.proofs.tests.threads.take_all.Given as goal

abbrev pub invariant-loop : goal.invariant-loop
invariant-loop g l = SameTaker l.initial.taker l.taker
