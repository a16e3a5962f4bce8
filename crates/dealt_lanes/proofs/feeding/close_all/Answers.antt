use Rattle.std.proofs.Common.{rules, ◌≡◌, ◌<◌, Some, length, refl, ◌∙◌}
use Rattle.std.proofs.lemmas.List.Elements.{length_all_zip}
use Rattle.lanes.specs.Ends.{SameFeeder, fed}
use Rattle.dealt_lanes.proofs.SameEnds.{closes, ends_at, ends_set, feeder_refl, feeder_trans}
use Rattle.dealt_lanes.proofs.Zips.{map_kept, zip_change, zip_refl}
use Rattle.dealt_lanes.proofs.feeding.close_all.Goals as goal

pub loop-lane-init : goal.loop-lane-init
loop-lane-init g c = record { lanes = zip_refl SameFeeder feeder_refl c.args.feeders.now.items; fed = refl; ends = c.requires }

pub loop-lane-preserved : goal.loop-lane-preserved
loop-lane-preserved g c =
    let old = c.args.feeders.now.items in let now = c.loop-lane.feeders.items in
    let i = c.loop-lane.lane in let f = c.index_mut.result.now in let new = c.close.new.self in
    let long : length old ≡ length now = length_all_zip SameFeeder old now c.loop-lane.invariant.lanes in
    let below : i < length now = search (rules, long) in
    record {
      lanes = zip_change SameFeeder feeder_trans old now i f new c.index_mut.ensures.value below c.loop-lane.invariant.lanes c.close.ensures.lane;
      fed = map_kept fed now i f new c.index_mut.ensures.value c.close.ensures.fed ∙ c.loop-lane.invariant.fed;
      ends = ends_set (Some c.args.end) now i new
          (closes c.args.end f new c.close.result (ends_at (Some c.args.end) now i f c.index_mut.ensures.value below c.loop-lane.invariant.ends)
          c.close.ensures.closed c.close.ensures.refused) c.loop-lane.invariant.ends;
    }
