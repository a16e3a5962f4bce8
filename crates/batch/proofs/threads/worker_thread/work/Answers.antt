use Rattle.lanes.specs.Ends.{SameSetter}
use Rattle.dealt_lanes.proofs.Zips.{zip_refl}
use Rattle.batch.proofs.Zips.{zip_trans}
use Rattle.batch.proofs.SameEnds.{setter_refl, setter_trans}
use Rattle.batch.proofs.threads.worker_thread.work.Goals as goal

pub loop-init : goal.loop-init
loop-init g c = (tt, tt, zip_refl SameSetter setter_refl c.args.worker)

pub returns-in-Done : goal.returns-in-Done
returns-in-Done g c = zip_trans SameSetter setter_trans c.args.worker c.loop.worker c.go_round.new.worker c.loop.invariant.2 c.go_round.ensures

pub loop-preserved-in-Made : goal.loop-preserved-in-Made
loop-preserved-in-Made g c =
    (tt, tt, zip_trans SameSetter setter_trans c.args.worker c.loop.worker c.go_round.new.worker c.loop.invariant.2 c.go_round.ensures)

pub loop-preserved : goal.loop-preserved
loop-preserved g c =
    (tt, tt, zip_trans SameSetter setter_trans c.args.worker c.loop.worker c.go_round.new.worker c.loop.invariant.2 c.go_round.ensures)
