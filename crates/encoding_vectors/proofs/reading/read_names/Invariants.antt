use Rattle.std.proofs.Common.{◌≡◌, replicate, take}
use Rattle.encoding_vectors.specs.Reading.{IsRead, characters_at}
use Rattle.encoding_vectors.specs.Vectors.{is_name}
use Rattle.encoding_vectors.proofs.reading.read_names.Given as goal

abbrev pub invariant-loop-index : goal.invariant-loop-index
invariant-loop-index l =
    IsRead (replicate l.index is_name) l.text l.fn.at l.at
    × (take l.index l.characters ≡ characters_at l.text l.fn.at l.index)
