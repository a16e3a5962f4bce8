use Rattle.std.proofs.Common.{rules, arith, ◌≡◌, true, false, length, refl, sym, subst, ◌∙◌}
use Rattle.std.specs.Prelude.{All, is_ok}
use Rattle.batch.specs.Collecting.{IsOver, SameLane, TellsLanes}
use Rattle.std.proofs.lemmas.List.Elements.{length_all_zip}
use Rattle.dealt_lanes.proofs.Zips.{zip_refl}
use Rattle.batch.proofs.Zips.{zip_trans}
use Rattle.batch.proofs.SameEnds.{lane_refl, lane_trans}
use Rattle.batch.proofs.TakerLemmas.{tells_all_kept, tells_all_same, tells_all_then}
use Rattle.batch.proofs.collecting.collector_thread.collect_all.Goals as goal

pub loop-init : goal.loop-init
loop-init g c = record {
  can_next = tt;
  is_finite = tt;
  same = zip_refl SameLane lane_refl c.args.lanes.now.items;
  lanes = refl;
  told = tells_all_same g.C.Collector.given c.args.lanes.now.items c.args.collector.now;
  willing = c.requires.willing;
}

pub go_round-requires-clause-lanes : goal.go_round-requires-clause-lanes
go_round-requires-clause-lanes g c =
    let long : length c.args.lanes.now.items ≡ length c.loop.lanes.items =
    length_all_zip SameLane c.args.lanes.now.items c.loop.lanes.items c.loop.invariant.same in
    omega (arith, long, c.loop.invariant.lanes)

pub returns-in_err-go_round-clause-same : goal.returns-in_err-go_round-clause-same
returns-in_err-go_round-clause-same g c =
    zip_trans SameLane lane_trans c.args.lanes.now.items c.loop.lanes.items c.go_round.new.lanes.items c.loop.invariant.same c.go_round.ensures.same

pub returns-in_err-go_round-clause-told : goal.returns-in_err-go_round-clause-told
returns-in_err-go_round-clause-told g c =
    let ts = c.args.lanes.now.items in let now = c.loop.lanes.items in
    let failed : false ≡ is_ok c.from_residual.result = search rules in
    subst (λ ok. TellsLanes g.C.Collector.given ts c.args.collector.now ok c.go_round.new.lanes.items c.go_round.new.collector) failed
    (tells_all_then g.C.Collector.given ts now c.go_round.new.lanes.items c.args.collector.now c.loop.collector c.go_round.new.collector false
    (sym (length_all_zip SameLane ts now c.loop.invariant.same)) c.loop.invariant.told c.in_err-go_round.ensures.told)

pub loop-preserved-then-branch : goal.loop-preserved-then-branch
loop-preserved-then-branch g c =
    let ts = c.args.lanes.now.items in let now = c.loop.lanes.items in record {
      can_next = tt;
      is_finite = tt;
      same = zip_trans SameLane lane_trans ts now c.go_round.new.lanes.items c.loop.invariant.same c.go_round.ensures.same;
      lanes = c.go_round.ensures.lanes ∙ c.loop.invariant.lanes;
      told = tells_all_then g.C.Collector.given ts now c.go_round.new.lanes.items c.args.collector.now c.loop.collector c.go_round.new.collector true
          (sym (length_all_zip SameLane ts now c.loop.invariant.same)) c.loop.invariant.told c.in_ok-go_round.ensures.told;
      willing = c.in_ok-go_round.ensures.refused;
    }

pub returns-then-have_ended-clause-same : goal.returns-then-have_ended-clause-same
returns-then-have_ended-clause-same g c =
    zip_trans SameLane lane_trans c.args.lanes.now.items c.loop.lanes.items c.go_round.new.lanes.items c.loop.invariant.same c.go_round.ensures.same

pub returns-then-have_ended-clause-told : goal.returns-then-have_ended-clause-told
returns-then-have_ended-clause-told g c =
    let ts = c.args.lanes.now.items in let now = c.loop.lanes.items in
    tells_all_kept g.C.Collector.given ts c.go_round.new.lanes.items c.args.collector.now c.go_round.new.collector c.about_to_wait.new.self
    (is_ok c.about_to_wait.result)
    (tells_all_then g.C.Collector.given ts now c.go_round.new.lanes.items c.args.collector.now c.loop.collector c.go_round.new.collector true
    (sym (length_all_zip SameLane ts now c.loop.invariant.same)) c.loop.invariant.told c.in_ok-go_round.ensures.told)
    c.about_to_wait.ensures.given

pub returns-in_err-wait-clause-same : goal.returns-in_err-wait-clause-same
returns-in_err-wait-clause-same g c =
    zip_trans SameLane lane_trans c.args.lanes.now.items c.loop.lanes.items c.go_round.new.lanes.items c.loop.invariant.same c.go_round.ensures.same

pub returns-in_err-wait-clause-told : goal.returns-in_err-wait-clause-told
returns-in_err-wait-clause-told g c =
    let ts = c.args.lanes.now.items in let now = c.loop.lanes.items in
    tells_all_kept g.C.Collector.given ts c.go_round.new.lanes.items c.args.collector.now c.go_round.new.collector c.wait.new.collector
    (is_ok c.from_residual-in_err-wait.result)
    (tells_all_then g.C.Collector.given ts now c.go_round.new.lanes.items c.args.collector.now c.loop.collector c.go_round.new.collector true
    (sym (length_all_zip SameLane ts now c.loop.invariant.same)) c.loop.invariant.told c.in_ok-go_round.ensures.told)
    c.wait.ensures.given

pub loop-preserved : goal.loop-preserved
loop-preserved g c =
    let ts = c.args.lanes.now.items in let now = c.loop.lanes.items in record {
      can_next = tt;
      is_finite = tt;
      same = zip_trans SameLane lane_trans ts now c.go_round.new.lanes.items c.loop.invariant.same c.go_round.ensures.same;
      lanes = c.wait.ensures.lanes ∙ c.go_round.ensures.lanes ∙ c.loop.invariant.lanes;
      told = tells_all_kept g.C.Collector.given ts c.go_round.new.lanes.items c.args.collector.now c.go_round.new.collector c.wait.new.collector
          true
          (tells_all_then g.C.Collector.given ts now c.go_round.new.lanes.items c.args.collector.now c.loop.collector c.go_round.new.collector true
          (sym (length_all_zip SameLane ts now c.loop.invariant.same)) c.loop.invariant.told c.in_ok-go_round.ensures.told)
          c.wait.ensures.given;
      willing = c.in_ok-wait.ensures.refused;
    }

pub returns-then-have_ended-clause-whole : goal.returns-then-have_ended-clause-whole
returns-then-have_ended-clause-whole g c =
    let over : All IsOver c.go_round.new.lanes.items = subst (All IsOver) c.as_slice.ensures.value (c.have_ended.ensures.0 c.if-have_ended.true) in
    λ _ k d below. (over k d below).0
