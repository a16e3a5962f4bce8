-- The bytes of a text in a JSON string.
-- Public source: JSON is RFC 8259, and its escapes are those of section 7; the rest is this project's own.
use Rattle.std.specs.Prelude.{ℕ, List, [], ◌∷◌, ◌++◌, ◌==◌, ◌&&◌, ◌||◌, not, codes, flat_map, nat_lt, if◌then◌else◌}
use Rattle.font_texts.specs.ListingWords.{escaped, hex_byte, is_plain}

-- a byte of a text in UTF-8 in a JSON string: a double quote or a backslash has a backslash before it, and a byte below
-- 32, which is a control character, is escaped by its number
unfoldable pub json_byte : ℕ → List ℕ
json_byte byte =
    if (byte == 34) || (byte == 92) then 92 ∷ byte ∷ []
    else if nat_lt byte 32 then codes "\\u00" ++ hex_byte byte
    else byte ∷ []

-- a text in UTF-8 in a JSON string
abbrev pub json_string : List ℕ → List ℕ
json_string text = flat_map json_byte text

-- a byte of a text of the header in a JSON string: as in a listing, with a backslash before a backslash or a double quote
unfoldable pub json_escaped : ℕ → List ℕ
json_escaped byte = (if is_plain byte && not (byte == 34) then [] else codes "\\") ++ escaped byte

-- a text of the header, which may be in any encoding, in a JSON string
abbrev pub json_text : List ℕ → List ℕ
json_text text = flat_map json_escaped text
