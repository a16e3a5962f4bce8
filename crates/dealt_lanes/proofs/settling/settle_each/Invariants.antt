-- the lanes that are left are lanes, and once they have met, all have
use Rattle.std.specs.Prelude.{length}
use Rattle.lanes.specs.Ends.{IsLane}
use Rattle.dealt_lanes.specs.Lanes.{AllThree, IsMet}
use Rattle.dealt_lanes.proofs.settling.settle_each.Given as goal

abbrev pub invariant-lanes : goal.invariant-lanes
invariant-lanes g l = record {
  lanes : AllThree IsLane l.feeders.items l.setters.items l.takers.items;
  met : AllThree IsMet l.feeders.items l.setters.items l.takers.items
      → AllThree IsMet l.initial.feeders.items l.initial.setters.items l.initial.takers.items;
}

abbrev pub decreases-lanes : goal.decreases-lanes
decreases-lanes g l = length l.feeders.items
