use Rattle.std.proofs.Common.{◌≡◌, ◌+◌, ◌-◌, ◌≤◌, drop, length}
use Rattle.std.specs.List.{prefix_len}
use Rattle.encoding_vectors.specs.Bytes.{is_regular}
use Rattle.encoding_vectors.proofs.scanning.token_end.Given as goal

abbrev pub invariant-loop-end : goal.invariant-loop-end
invariant-loop-end l =
    (l.end ≤ length l.text)
    × (l.end + prefix_len is_regular (drop l.end l.text) ≡ l.start + 1 + prefix_len is_regular (drop (l.start + 1) l.text))

abbrev pub decreases-loop-end : goal.decreases-loop-end
decreases-loop-end l = length l.text - l.end
