use Rattle.std.proofs.Common.{◌≡◌, ◌<◌, ℕ, false, get_or}
use Rattle.tfm_tables.specs.Font.{FontValue}
use Rattle.spans.specs.Spans.{is_missing}
use Rattle.spans.proofs.refusing.first_missing.Given as goal

abbrev pub invariant-loop-at : goal.invariant-loop-at
invariant-loop-at g l = (value : FontValue) → g.F.WordFont.is_of l.font value → (k : ℕ) → k < l.at → is_missing value (get_or l.codes k 0) ≡ false
