use Rattle.std.proofs.Common.{◌≡◌, ℕ, ◌<◌, get_or, length}
use Rattle.encodings.specs.VectorTables.{single_at as single_in}
use Rattle.encodings.proofs.vector_tables.singles.Given as goal

abbrev pub invariant-loop-index : goal.invariant-loop-index
invariant-loop-index l =
    (length l.singles ≡ 448) × ((k : ℕ) → k < l.index → get_or l.singles k 0 ≡ single_in l.characters k)
