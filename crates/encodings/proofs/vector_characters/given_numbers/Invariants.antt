use Rattle.std.proofs.Common.{◌≡◌, ℕ, ◌<◌, get_or, length}
use Rattle.encodings.specs.Vectors.{given_at as given_in}
use Rattle.encodings.proofs.vector_characters.given_numbers.Given as goal

abbrev pub invariant-loop-code : goal.invariant-loop-code
invariant-loop-code l =
    (length l.given ≡ 256) × ((k : ℕ) → k < l.code → get_or l.given k 0 ≡ given_in l.numbers k)
