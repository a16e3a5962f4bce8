use Rattle.std.proofs.Common.{◌≡◌, ◌+◌, ◌≤◌, drop}
use Rattle.encoding_vectors.specs.Vectors.{line_ends as line_ends_in}
use Rattle.encoding_vectors.proofs.lines.line_ends.Given as goal

abbrev pub invariant-loop-at : goal.invariant-loop-at
invariant-loop-at l = (l.count ≤ l.at) × (l.count + line_ends_in (drop l.at l.text) ≡ line_ends_in l.text)
