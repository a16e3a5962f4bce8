-- The character at a code of an encoding, if the code has one.
-- Public source: that of Tables; in Latin 1 a code is its character, as in ISO/IEC 8859-1.
use Rattle.std.specs.Prelude.{ℕ, nat_eq, Option, Some, None, if◌then◌else◌}
use Rattle.encodings.specs.declared.encoding.Encoding.{Encoding}
use Rattle.encodings.specs.Laws.{character_at}
use Rattle.encodings.specs.Tables.{no}

-- the character with a number, or None for the mark of a code that is no character's own
abbrev pub unmarked : ℕ → Option ℕ
unmarked number = if nat_eq number no then None else Some number

-- the character at a code, or None if the code is no character's own
unfoldable pub character_of : Encoding → ℕ → Option ℕ
character_of encoding code = unmarked (character_at encoding code)
