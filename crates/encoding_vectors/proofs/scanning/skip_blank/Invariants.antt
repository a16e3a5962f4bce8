use Rattle.std.proofs.Common.{◌≡◌, ◌-◌, ◌≤◌, length}
use Rattle.encoding_vectors.specs.Reading.{tokens_at}
use Rattle.encoding_vectors.proofs.TokenLemmas.{tokens_in}
use Rattle.encoding_vectors.proofs.scanning.skip_blank.Given as goal

abbrev pub invariant-loop-at : goal.invariant-loop-at
invariant-loop-at l =
    (l.at ≤ length l.text)
    × (tokens_at l.text l.fn.at ≡ tokens_in l.text l.at l.comment)

abbrev pub decreases-loop-at : goal.decreases-loop-at
decreases-loop-at l = length l.text - l.at
