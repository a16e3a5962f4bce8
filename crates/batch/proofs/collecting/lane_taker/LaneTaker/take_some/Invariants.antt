-- the taker is of the same lane, and what was taken was given to the collector
use Rattle.std.proofs.Common.{◌≡◌, None, true}
use Rattle.dealt_lanes.specs.Dealt.{SameGatherer}
use Rattle.batch.specs.Collecting.{TellsLane}
use Rattle.batch.proofs.collecting.lane_taker.LaneTaker.take_some.Given as goal

abbrev pub invariant-loop-takes : goal.invariant-loop-takes
invariant-loop-takes g l = record {
  same : SameGatherer l.initial.self.gatherer l.self.gatherer;
  lanes : g.C.Collector.lanes l.collector ≡ g.C.Collector.lanes l.initial.collector;
  told : TellsLane g.C.Collector.given l.lane l.initial.self l.initial.collector true l.self l.collector;
  willing : g.C.Collector.refused l.collector None;
}
