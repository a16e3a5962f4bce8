-- the output so far, followed by that of the lanes that are left, is all output
use Rattle.std.proofs.Common.{◌≡◌, ◌+◌, ◌++◌, drop}
use Rattle.run_texts.specs.ReportText.{lanes_text}
use Rattle.run_texts.specs.RunText.{bytes_style}
use Rattle.run_texts.proofs.reporting.append_lanes.Given as goal

abbrev pub invariant-loop-lane : goal.invariant-loop-lane
invariant-loop-lane g l =
    (l.source ≡ l.lane-index)
    × (l.text.items ++ lanes_text (1 + l.source) (bytes_style l.version) (drop l.lane-index l.lanes)
    ≡ l.fn.text.items ++ lanes_text 1 (bytes_style l.version) l.lanes)
