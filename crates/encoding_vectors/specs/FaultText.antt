-- The text of the error.
-- This project's own.
use Rattle.std.specs.Prelude.{ℕ, List, ◌++◌, codes, decimal}
use Rattle.encoding_vectors.specs.declared.fault.VectorFault.{VectorFault}

-- the text, with the number of the line
unfoldable pub fault_text : VectorFault → List ℕ
fault_text fault = codes "encoding refused: line " ++ decimal fault.line
