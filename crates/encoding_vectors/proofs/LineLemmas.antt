-- The ends of lines are counted from the front.
use Rattle.std.proofs.Common.{◌≡◌, ℕ, ◌+◌, ◌<◌, List, length, get_or, drop, ap}
use Rattle.std.specs.Int.{from_bool}
use Rattle.std.proofs.lemmas.List.{drop_more}
use Rattle.encoding_vectors.specs.Vectors.{ends_one, line_ends}

-- the lines that end from an offset on
pub ends_from : (text : List ℕ) (at : ℕ) → at < length text → line_ends (drop at text) ≡ from_bool (ends_one (get_or text at 0) (drop (at + 1) text)) + line_ends (drop (at + 1) text)
ends_from text at within = ap line_ends (drop_more text at 0 within)
