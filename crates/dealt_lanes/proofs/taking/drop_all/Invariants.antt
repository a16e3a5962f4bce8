-- some results were taken from the takers
use Rattle.std.specs.List.{AllZip}
use Rattle.dealt_lanes.specs.Takers.{IsDrained}
use Rattle.dealt_lanes.proofs.taking.drop_all.Given as goal

abbrev pub invariant-loop-lane : goal.invariant-loop-lane
invariant-loop-lane g l = AllZip IsDrained l.initial.takers.items l.takers.items
