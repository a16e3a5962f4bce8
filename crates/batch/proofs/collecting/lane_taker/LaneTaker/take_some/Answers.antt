use Rattle.std.proofs.Common.{rules, true, ◌∙◌, refl}
use Rattle.batch.proofs.SameEnds.{lane_refl, lane_trans}
use Rattle.batch.proofs.TakerLemmas.{tells_same, tells_then}
use Rattle.batch.proofs.collecting.lane_taker.LaneTaker.take_some.Goals as goal

pub loop-takes-init : goal.loop-takes-init
loop-takes-init g c = record {
  same = lane_refl c.args.self.now;
  lanes = refl;
  told = tells_same g.C.Collector.given c.args.lane c.args.self.now c.args.collector.now;
  willing = c.requires.willing;
}

pub returns-in_err-take-clause-same : goal.returns-in_err-take-clause-same
returns-in_err-take-clause-same g c = lane_trans c.args.self.now c.loop-takes.self c.take.new.self c.loop-takes.invariant.same c.take.ensures.same

pub returns-then-not-branch-clause-same : goal.returns-then-not-branch-clause-same
returns-then-not-branch-clause-same g c = lane_trans c.args.self.now c.loop-takes.self c.take.new.self c.loop-takes.invariant.same c.take.ensures.same

pub loop-takes-preserved : goal.loop-takes-preserved
loop-takes-preserved g c = record {
  same = lane_trans c.args.self.now c.loop-takes.self c.take.new.self c.loop-takes.invariant.same c.take.ensures.same;
  lanes = c.take.ensures.lanes ∙ c.loop-takes.invariant.lanes;
  told = tells_then g.C.Collector.given c.args.lane c.args.self.now c.loop-takes.self c.take.new.self c.args.collector.now c.loop-takes.collector
      c.take.new.collector true c.loop-takes.invariant.told c.in_ok-take.ensures.told;
  willing = search rules;
}
