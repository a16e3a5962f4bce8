use Rattle.std.proofs.Common.{◌≡◌, ℕ, ◌<◌, get_or, length}
use Rattle.encodings.specs.Vectors.{number_at as number_in}
use Rattle.encodings.proofs.vector_characters.numbers.Given as goal

abbrev pub invariant-loop-code : goal.invariant-loop-code
invariant-loop-code l =
    (length l.numbers ≡ 256) × ((k : ℕ) → k < l.code → get_or l.numbers k 0 ≡ number_in l.characters k)
