use Rattle.std.proofs.Common.{◌≡◌, ℕ, ◌<◌, get_or, length}
use Rattle.encodings.specs.Vectors.{own_at}
use Rattle.encodings.proofs.vector_characters.own_numbers.Given as goal

abbrev pub invariant-loop-code : goal.invariant-loop-code
invariant-loop-code l =
    (length l.own ≡ 256) × ((k : ℕ) → k < l.code → get_or l.own k 0 ≡ own_at l.characters k)
