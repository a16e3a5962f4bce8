-- the bytes that the reader had begin with those that were read so far, of which as many are kept as a font can have
use Rattle.std.proofs.Common.{◌≡◌, ℕ, List}
use Rattle.std.specs.Io.KnownBytes.{Consumes}
use Rattle.tfm_requests.specs.Kept.{kept_of}
use Rattle.tfm_requests.proofs.files.reading.kept_bytes.Given as goal

abbrev pub invariant-loop : goal.invariant-loop
invariant-loop g l = (read : List ℕ) × Consumes (g.I.Read.remaining l.fn.input) (g.I.Read.remaining l.input) read × (l.bytes.items ≡ kept_of read)
