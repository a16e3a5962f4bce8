use Rattle.std.proofs.Common.{rules, arith, ◌≡◌, ◌<◌, true, false, length, refl, sym, subst, ◌∙◌}
use Rattle.std.specs.Prelude.{is_ok, slice_set}
use Rattle.batch.specs.Collecting.{SameLane, TellsLanes}
use Rattle.std.proofs.lemmas.List.Elements.{length_all_zip}
use Rattle.dealt_lanes.proofs.Zips.{zip_refl, zip_change}
use Rattle.batch.proofs.SameEnds.{lane_refl, lane_trans}
use Rattle.batch.proofs.TakerLemmas.{tells_all_same, tells_all_then, tells_one}
use Rattle.batch.proofs.collecting.collector_thread.go_round.Goals as goal

pub loop-lane-init : goal.loop-lane-init
loop-lane-init g c = record {
  same = zip_refl SameLane lane_refl c.args.lanes.now.items;
  lanes = refl;
  told = tells_all_same g.C.Collector.given c.args.lanes.now.items c.args.collector.now;
  willing = c.requires.willing;
}

pub returns-in_err-took-clause-same : goal.returns-in_err-took-clause-same
returns-in_err-took-clause-same g c =
    let ts = c.args.lanes.now.items in let now = c.loop-lane.lanes.items in
    let long : length ts ≡ length now = length_all_zip SameLane ts now c.loop-lane.invariant.same in
    let below : c.loop-lane.lane < length ts = search rules in
    zip_change SameLane lane_trans ts now c.loop-lane.lane c.index_mut.result.now c.visit.new.self
    c.index_mut.ensures.value (omega (arith, long, below)) c.loop-lane.invariant.same c.visit.ensures.same

pub returns-in_err-took-clause-told : goal.returns-in_err-took-clause-told
returns-in_err-took-clause-told g c =
    let ts = c.args.lanes.now.items in let now = c.loop-lane.lanes.items in
    let long : length ts ≡ length now = length_all_zip SameLane ts now c.loop-lane.invariant.same in
    let below : c.loop-lane.lane < length ts = search rules in
    let here : c.loop-lane.lane < length now = omega (arith, long, below) in
    let failed : false ≡ is_ok c.from_residual.result = search rules in
    subst (λ ok. TellsLanes g.C.Collector.given ts c.args.collector.now ok (slice_set now c.loop-lane.lane c.visit.new.self) c.visit.new.collector)
    failed
    (tells_all_then g.C.Collector.given ts now (slice_set now c.loop-lane.lane c.visit.new.self) c.args.collector.now c.loop-lane.collector
    c.visit.new.collector false (sym long) c.loop-lane.invariant.told
    (tells_one g.C.Collector.given now c.loop-lane.lane c.index_mut.result.now c.visit.new.self c.loop-lane.collector
    c.visit.new.collector false here c.index_mut.ensures.value c.in_err-took.ensures.told))

pub loop-lane-preserved : goal.loop-lane-preserved
loop-lane-preserved g c =
    let ts = c.args.lanes.now.items in let now = c.loop-lane.lanes.items in
    let long : length ts ≡ length now = length_all_zip SameLane ts now c.loop-lane.invariant.same in
    let below : c.loop-lane.lane < length ts = search rules in
    let here : c.loop-lane.lane < length now = omega (arith, long, below) in
    record {
      same = zip_change SameLane lane_trans ts now c.loop-lane.lane c.index_mut.result.now c.visit.new.self c.index_mut.ensures.value here
          c.loop-lane.invariant.same c.visit.ensures.same;
      lanes = c.visit.ensures.lanes ∙ c.loop-lane.invariant.lanes;
      told = tells_all_then g.C.Collector.given ts now (slice_set now c.loop-lane.lane c.visit.new.self) c.args.collector.now c.loop-lane.collector
          c.visit.new.collector true (sym long) c.loop-lane.invariant.told
          (tells_one g.C.Collector.given now c.loop-lane.lane c.index_mut.result.now c.visit.new.self
          c.loop-lane.collector c.visit.new.collector true here c.index_mut.ensures.value c.in_ok-took.ensures.told);
      willing = c.in_ok-took.ensures.refused;
    }
