use Rattle.std.proofs.Common.{◌≡◌, ◌≤◌, ◌+◌, ◌*◌, take}
use Rattle.std.specs.Prelude.{sum}
use Rattle.tfm_words.proofs.numbers.Numbers.end_of.Given as goal

abbrev pub invariant-loop-length : goal.invariant-loop-length
invariant-loop-length l = (l.end ≡ 6 + sum (take l.length-index l.length-items)) × (l.end ≤ 6 + 65535 * l.length-index)
