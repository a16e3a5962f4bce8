use Rattle.std.proofs.Common.{rules}
use Rattle.lanes.specs.Ends.{SameSetter}
use Rattle.dealt_lanes.proofs.Zips.{zip_refl, zip_change}
use Rattle.batch.proofs.SameEnds.{setter_refl, setter_trans}
use Rattle.batch.proofs.threads.worker.go_round.Goals as goal

pub loop-i-init : goal.loop-i-init
loop-i-init g c = zip_refl SameSetter setter_refl c.worker.inside.setters.items

pub loop-i-preserved : goal.loop-i-preserved
loop-i-preserved g c =
    zip_change SameSetter setter_trans c.worker.inside.setters.items c.loop-i.worker-inside.setters.items c.loop-i.i c.index_mut.result.now
    c.visit.new.lane c.index_mut.ensures.value (search rules) c.loop-i.invariant c.visit.ensures
