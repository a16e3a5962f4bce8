use Rattle.std.proofs.Common.{rules, ◌≡◌, ◌<◌, length}
use Rattle.std.proofs.lemmas.List.Elements.{length_all_zip}
use Rattle.dealt_lanes.specs.Takers.{IsDrained}
use Rattle.dealt_lanes.proofs.Drained.{drained_refl, drained_trans}
use Rattle.dealt_lanes.proofs.Zips.{zip_change, zip_refl}
use Rattle.dealt_lanes.proofs.taking.drop_all.Goals as goal

pub loop-lane-init : goal.loop-lane-init
loop-lane-init g c = zip_refl IsDrained drained_refl c.args.takers.now.items

pub loop-lane-preserved : goal.loop-lane-preserved
loop-lane-preserved g c =
    let old = c.args.takers.now.items in let now = c.loop-lane.takers.items in
    let long : length old ≡ length now = length_all_zip IsDrained old now c.loop-lane.invariant in
    let below : c.loop-lane.lane < length now = search (rules, long) in
    zip_change IsDrained drained_trans old now c.loop-lane.lane c.index_mut.result.now c.drop_some-any.new.taker c.index_mut.ensures.value below
    c.loop-lane.invariant c.drop_some-any.ensures
