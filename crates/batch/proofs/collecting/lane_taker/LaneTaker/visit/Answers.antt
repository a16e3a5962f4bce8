use Rattle.batch.proofs.SameEnds.{lane_trans}
use Rattle.batch.proofs.collecting.lane_taker.LaneTaker.visit.Goals as goal

pub returns-then-took-clause-same : goal.returns-then-took-clause-same
returns-then-took-clause-same g c =
    lane_trans c.args.self.now c.take_some.new.self c.drop_rest-dropped.new.self c.take_some.ensures.same c.drop_rest-dropped.ensures.same

pub returns-else-took-clause-same : goal.returns-else-took-clause-same
returns-else-took-clause-same g c =
    lane_trans c.args.self.now c.take_some.new.self c.drop_rest-dropped.new.self c.take_some.ensures.same c.drop_rest-dropped.ensures.same
