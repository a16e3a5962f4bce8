-- The characters by code as they are looked up.
-- This project's own representation; Codes defines them.
use Rattle.std.specs.Prelude.{ℕ, List, []}
use Rattle.encodings.specs.declared.encoding.Encoding.{Encoding}
use Rattle.encodings.specs.declared.encoding.Encoding.TheVariants.{Ot1, T1, Ly1, Latin1, Vector}
use Rattle.encodings.specs.declared.characters.TheConstants.{LATIN1_CHARACTERS}
use Rattle.encodings.specs.declared.characters.ot1.TheConstants.{OT1_CHARACTERS}
use Rattle.encodings.specs.declared.characters.t1.TheConstants.{T1_CHARACTERS}
use Rattle.encodings.specs.declared.characters.ly1.TheConstants.{LY1_CHARACTERS}

-- the characters by code, in the tables of the code; those of a vector aren't there
unfoldable pub characters_in : Encoding → List ℕ
characters_in Ot1 = OT1_CHARACTERS
characters_in T1 = T1_CHARACTERS
characters_in Ly1 = LY1_CHARACTERS
characters_in Latin1 = LATIN1_CHARACTERS
characters_in (Vector vector) = []
