-- the same end
use Rattle.lanes.specs.Ends.{SameFeeder}
use Rattle.lane_tests.proofs.tests.threads.feed_all.Given as goal

abbrev pub invariant-loop : goal.invariant-loop
invariant-loop g l = SameFeeder l.initial.feeder l.feeder
