use Rattle.dealt_lanes.proofs.Drained.{drained_refl, drained_took, drained_trans}
use Rattle.dealt_lanes.proofs.taking.drop_some.Goals as goal

pub loop-dropped-init : goal.loop-dropped-init
loop-dropped-init g c = drained_refl c.args.taker.now

pub loop-dropped-preserved : goal.loop-dropped-preserved
loop-dropped-preserved g c =
    drained_trans c.args.taker.now c.loop-dropped.taker c.take.new.self c.loop-dropped.invariant
    (drained_took g.O.Made.is_right c.loop-dropped.taker c.take.new.self c.take.result c.take.ensures.lane c.take.ensures.took)

pub returns-in-Nothing : goal.returns-in-Nothing
returns-in-Nothing g c =
    drained_trans c.args.taker.now c.loop-dropped.taker c.take.new.self c.loop-dropped.invariant
    (drained_took g.O.Made.is_right c.loop-dropped.taker c.take.new.self c.take.result c.take.ensures.lane c.take.ensures.took)

pub returns-in-End : goal.returns-in-End
returns-in-End g c =
    drained_trans c.args.taker.now c.loop-dropped.taker c.take.new.self c.loop-dropped.invariant
    (drained_took g.O.Made.is_right c.loop-dropped.taker c.take.new.self c.take.result c.take.ensures.lane c.take.ensures.took)
