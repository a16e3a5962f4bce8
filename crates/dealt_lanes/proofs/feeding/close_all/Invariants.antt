-- the feeders are of the same lanes, with the same items; each closed one has the end
use Rattle.std.specs.Prelude.{◌≡◌, Some}
use Rattle.dealt_lanes.specs.Feeders.{HaveEnd, SameFeeders, each_fed}
use Rattle.dealt_lanes.proofs.feeding.close_all.Given as goal

abbrev pub invariant-loop-lane : goal.invariant-loop-lane
invariant-loop-lane g l = record {
  lanes : SameFeeders l.initial.feeders.items l.feeders.items;
  fed : each_fed l.feeders.items ≡ each_fed l.initial.feeders.items;
  ends : HaveEnd (Some l.end) l.feeders.items;
}
