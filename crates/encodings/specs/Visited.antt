-- The parts of a line as they are visited.
-- This project's own representation; Parts defines the parts.
use Rattle.encodings.specs.declared.parts.Part.{Part}
use Rattle.encodings.specs.Parts.{PartValue}

-- a part as contracts see it
abbrev pub value_of : Part → PartValue
value_of part = record { codes = part.codes.now; gap = part.gap }
