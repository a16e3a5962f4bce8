use Rattle.std.proofs.Common.{◌≡◌, drop}
use Rattle.encodings.specs.Codes.{codes_beside}
use Rattle.encodings.specs.Lookup.{rows_of}
use Rattle.encodings.proofs.lookup.codes_in_row.Given as goal

abbrev pub invariant-loop-other : goal.invariant-loop-other
invariant-loop-other l = codes_beside (rows_of l.rows) l.character ≡ codes_beside (rows_of (drop l.other-index l.rows)) l.character
