use Rattle.batch.proofs.SameEnds.{lane_refl}
use Rattle.batch.proofs.collecting.lane_taker.LaneTaker.drop_rest.Goals as goal

pub returns-then-is_none-clause-same : goal.returns-then-is_none-clause-same
returns-then-is_none-clause-same g c = lane_refl c.args.self.now
