use Rattle.std.proofs.Common.{◌+◌, ◌-◌, ◌^◌, ◌<◌, ◌≤◌}
use Rattle.font_tests.proofs.tests.words.scaled_by_bytes.Given as goal

abbrev pub invariant-loop-z : goal.invariant-loop-z
invariant-loop-z l = (l.z < 2 ^ 27) × (16 ≤ l.alpha) × (l.alpha ≤ 256)

-- each round halves z
abbrev pub decreases-loop-z : goal.decreases-loop-z
decreases-loop-z l = l.z + 1 - 8388608
