use Rattle.std.proofs.Common.{◌≡◌, length}
use Rattle.encoding_vectors.specs.Glyphs.{digits_beside, rows_in}
use Rattle.encoding_vectors.proofs.glyphs.digits_in.Given as goal

abbrev pub invariant-loop-rest : goal.invariant-loop-rest
invariant-loop-rest l =
    digits_beside (rows_in (length l.name) l.rows) l.name ≡ digits_beside (rows_in (length l.name) l.rest) l.name

abbrev pub decreases-loop-rest : goal.decreases-loop-rest
decreases-loop-rest l = length l.rest
