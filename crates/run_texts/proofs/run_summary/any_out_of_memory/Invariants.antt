-- whether some lane so far is
use Rattle.std.proofs.Common.{◌≡◌, false, take}
use Rattle.std.specs.List.{list_any}
use Rattle.std.specs.Option.{option_map_or}
use Rattle.run_texts.specs.ReportText.{is_wanting}
use Rattle.run_texts.proofs.run_summary.any_out_of_memory.Given as goal

abbrev pub invariant-loop-lane : goal.invariant-loop-lane
invariant-loop-lane g l = l.some ≡ list_any (λ lane. option_map_or is_wanting (g.L.EndedLane.ended lane) false) (take l.lane-index l.lanes)
