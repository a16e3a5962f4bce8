-- The bytes of a text in a listing, and bytes in hexadecimal.
-- This project's own.
use Rattle.std.specs.Prelude.{ℕ, ◌/◌, ◌%◌, ◌==◌, ◌&&◌, not, nat_le, Bool, List, [], ◌∷◌, ◌++◌, codes, flat_map, if◌then◌else◌, false}
use Rattle.std.specs.Fmt.{digit_glyph}

-- a byte that a listing contains unescaped: printable ASCII except the backslash
abbrev pub is_plain : ℕ → Bool
is_plain byte = nat_le 32 byte && nat_le byte 126 && not (byte == 92)

-- a byte as two hexadecimal digits in lower case, the higher digit first
unfoldable pub hex_byte : ℕ → List ℕ
hex_byte byte = digit_glyph false (byte / 16) ∷ digit_glyph false (byte % 16) ∷ []

-- a byte in a listing; one that isn't plain is escaped as a backslash, an x and two hexadecimal digits
unfoldable pub escaped : ℕ → List ℕ
escaped byte = if is_plain byte then byte ∷ [] else codes "\\x" ++ hex_byte byte

-- a text of the header, with each byte escaped if necessary
abbrev pub escaped_text : List ℕ → List ℕ
escaped_text text = flat_map escaped text

-- bytes as hexadecimal digits, one byte after the other
abbrev pub hex_text : List ℕ → List ℕ
hex_text bytes = flat_map hex_byte bytes
