-- The codes of a character as they are looked up.
-- This project's own representation; Codes defines them.
use Rattle.std.specs.Prelude.{ℕ, Bool, true, false, ◌+◌, ◌-◌, List, [], ◌∷◌, Option, Some, ◌&&◌, cond, nat_le, nat_lt, get_or, take, min}
use Rattle.encodings.specs.declared.encoding.Encoding.{Encoding}
use Rattle.encodings.specs.declared.encoding.Encoding.TheVariants.{Ot1, T1, Ly1, Latin1, Vector}
use Rattle.encodings.specs.declared.tables.ot1.TheConstants.{OT1_SINGLE, OT1_OTHERS}
use Rattle.encodings.specs.declared.tables.t1.TheConstants.{T1_SINGLE, T1_OTHERS}
use Rattle.encodings.specs.declared.tables.ly1.TheConstants.{LY1_SINGLE, LY1_OTHERS}
use Rattle.encodings.specs.declared.tables.latin1.TheConstants.{LATIN1_SINGLE, LATIN1_OTHERS}
use Rattle.encodings.specs.Codes.{codes_beside}
use Rattle.encodings.specs.Vectors.{vector_characters}
use Rattle.encodings.specs.VectorTables.{singles_of}

-- whether the codes of an encoding are all in tables of the code; those of a vector aren't
abbrev pub is_table : Encoding → Bool
is_table Ot1 = true
is_table T1 = true
is_table Ly1 = true
is_table Latin1 = true
is_table (Vector vector) = false

-- the single codes in the tables of the code, and in that of a vector, of the characters below U+0180, and then of
-- those from U+2000 to U+203F
unfoldable pub singles_in : Encoding → List ℕ
singles_in Ot1 = OT1_SINGLE
singles_in T1 = T1_SINGLE
singles_in Ly1 = LY1_SINGLE
singles_in Latin1 = LATIN1_SINGLE
singles_in (Vector vector) = singles_of (vector_characters vector.now.characters)

-- whether a character is one from U+2000 to U+203F, the first part of the block General Punctuation
abbrev pub is_punctuation : ℕ → Bool
is_punctuation character = nat_le 0x2000 character && nat_lt character 0x2040

-- the index of a character there, or the number of entries for any other character
abbrev pub index_of : ℕ → ℕ
index_of character =
    cond (nat_lt character 384) character (cond (is_punctuation character) (384 + (character - 0x2000)) 448)

-- the rows of the other characters there: each a character, the number of its codes, and these codes with
-- zeros after them
unfoldable pub others_in : Encoding → List (ℕ × ℕ × List ℕ)
others_in Ot1 = OT1_OTHERS
others_in T1 = T1_OTHERS
others_in Ly1 = LY1_OTHERS
others_in Latin1 = LATIN1_OTHERS
others_in (Vector vector) = []

-- the characters of rows, with their codes
abbrev pub rows_of : List (ℕ × ℕ × List ℕ) → List (ℕ × List ℕ)
rows_of [] = []
rows_of (row ∷ rows) = (row.0, take (min row.1 3) row.2) ∷ rows_of rows

-- the single code of a character, or the codes in its row; 256 stands for no single code
abbrev pub looked_up : List ℕ → List (ℕ × List ℕ) → ℕ → Option (List ℕ)
looked_up singles rows character =
    let code = get_or singles (index_of character) 256 in
    cond (nat_lt code 256) (Some (code ∷ [])) (codes_beside rows character)
