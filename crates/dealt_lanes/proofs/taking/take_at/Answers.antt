use Rattle.std.proofs.Common.{refl}
use Rattle.lanes.specs.Ends.{SameTaker}
use Rattle.dealt_lanes.proofs.SameEnds.{taker_refl}
use Rattle.dealt_lanes.proofs.Zips.{zip_set}
use Rattle.dealt_lanes.proofs.taking.take_at.Goals as goal

pub returns-clause-lanes : goal.returns-clause-lanes
returns-clause-lanes g c =
    zip_set SameTaker taker_refl c.args.takers.now.items c.args.lane c.index_mut.result.now c.take.new.self c.index_mut.ensures.value
    c.take.ensures.lane

pub returns-clause-took : goal.returns-clause-took
returns-clause-took g c =
    (c.index_mut.result.now, c.take.new.self, c.index_mut.ensures.value, refl, c.take.ensures.took)
