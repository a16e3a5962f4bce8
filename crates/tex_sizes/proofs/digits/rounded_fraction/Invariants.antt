use Rattle.std.proofs.Common.{◌≡◌, ◌≤◌, ◌^◌, ◌*◌, ◌/◌, ◌-◌, drop, length}
use Rattle.std.specs.Str.Parse.{digits_value}
use Rattle.tex_sizes.proofs.digits.rounded_fraction.Given as goal

abbrev pub invariant-loop-at : goal.invariant-loop-at
invariant-loop-at l =
    (l.at ≤ length l.digits)
    × (l.doubled ≤ 2 ^ 17 - 1)
    × (l.doubled ≡ 2 ^ 17 * digits_value 10 (drop l.at l.digits) / 10 ^ length (drop l.at l.digits))

abbrev pub decreases-loop-at : goal.decreases-loop-at
decreases-loop-at l = l.at
