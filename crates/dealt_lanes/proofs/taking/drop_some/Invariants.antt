-- the taker is of the same lane, and some results were taken
use Rattle.dealt_lanes.specs.Takers.{IsDrained}
use Rattle.dealt_lanes.proofs.taking.drop_some.Given as goal

abbrev pub invariant-loop-dropped : goal.invariant-loop-dropped
invariant-loop-dropped g l = IsDrained l.initial.taker l.taker
