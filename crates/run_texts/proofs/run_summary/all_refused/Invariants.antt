-- the refused lines of the lanes so far
use Rattle.std.proofs.Common.{◌≡◌, ◌-◌, ◌^◌, min, sum_by, take}
use Rattle.run_texts.proofs.run_summary.all_refused.Given as goal

abbrev pub invariant-loop-lane : goal.invariant-loop-lane
invariant-loop-lane g l = l.count ≡ min (2 ^ 64 - 1) (sum_by g.C.RefusedCount.refused (take l.lane-index l.lanes))
