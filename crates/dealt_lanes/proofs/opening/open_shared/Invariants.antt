-- so many lanes were opened
use Rattle.std.specs.Prelude.{◌≡◌, ◌+◌, length}
use Rattle.dealt_lanes.specs.Lanes.{AllThree, IsNew}
use Rattle.dealt_lanes.proofs.opening.open_shared.Given as goal

abbrev pub invariant-loop-opened : goal.invariant-loop-opened
invariant-loop-opened g l = record {
  lanes : AllThree (IsNew (g.M.Making.makes l.maker)) l.ends.feeders.items l.ends.setters.items l.ends.takers.items;
  count : length l.ends.setters.items + 1 ≡ l.opened;
}
