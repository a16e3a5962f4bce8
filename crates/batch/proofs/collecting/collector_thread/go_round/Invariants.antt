-- the takers are of the same lanes, and what was taken was given to the collector
use Rattle.std.proofs.Common.{◌≡◌, None, true}
use Rattle.std.specs.List.{AllZip}
use Rattle.batch.specs.Collecting.{SameLane, TellsLanes}
use Rattle.batch.proofs.collecting.collector_thread.go_round.Given as goal

abbrev pub invariant-loop-lane : goal.invariant-loop-lane
invariant-loop-lane g l = record {
  same : AllZip SameLane l.initial.lanes.items l.lanes.items;
  lanes : g.C.Collector.lanes l.collector ≡ g.C.Collector.lanes l.initial.collector;
  told : TellsLanes g.C.Collector.given l.initial.lanes.items l.initial.collector true l.lanes.items l.collector;
  willing : g.C.Collector.refused l.collector None;
}
