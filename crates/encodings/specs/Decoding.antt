-- A text while it is encoded.
-- This project's own representation; Lines defines the numbers.
use Rattle.std.specs.Prelude.{◌≡◌, ℕ, ◌-◌, ◌≤◌, ◌<◌, Bool, ◌&&◌, nat_eq, nat_le, nat_lt, List, ◌++◌, length, take, get_or, flat_map}
use Rattle.std.specs.Char.{encode_utf8}
use Rattle.std.specs.Str.{chars, IsUtf8}
use Rattle.encodings.specs.declared.encoding.Encoding.{Encoding}
use Rattle.encodings.specs.Lines.{numbers_of, places_from, places_of}
use Rattle.encodings.specs.Lookup.{index_of}

-- whether a line begins with the three bytes of a byte order mark (U+FEFF)
abbrev pub begins_with_mark : List ℕ → Bool
begins_with_mark line =
    nat_le 3 (length line)
    && (nat_eq (get_or line 0 0) 0xEF && (nat_eq (get_or line 1 0) 0xBB && nat_eq (get_or line 2 0) 0xBF))

-- a text is that of a line, without the byte order mark at its front if it is the first line
pub record IsTextOf (first : Bool) (line text : List ℕ) : Type 0 where
  pub utf8 : IsUtf8 line → IsUtf8 text
  pub whole : IsUtf8 text → IsUtf8 line
  pub places : IsUtf8 text → places_from (length line - length text) (chars text) ≡ places_of first line

-- the numbers of a text
abbrev pub text_numbers : Encoding → List ℕ → List ℕ
text_numbers encoding text = flat_map (numbers_of encoding) (chars text)

-- the characters of a text before its rest are read, and their numbers are appended to a list
pub record IsRead (encoding : Encoding) (text rest old new : List ℕ) : Type 0 where
  pub front : List ℕ
  pub whole : text ≡ front ++ rest
  pub utf8 : IsUtf8 front
  pub numbers : new ≡ old ++ text_numbers encoding front

-- whether a byte is an ASCII character whose only code, in a table of single codes, is the byte itself
abbrev pub is_plain : List ℕ → ℕ → Bool
is_plain singles byte = nat_lt byte 128 && nat_eq (get_or singles byte 256) byte

-- the character of so many bytes at the front of a text has this index in a table of single codes
pub record IsIndexed (text : List ℕ) (index len : ℕ) : Type 0 where
  pub character : ℕ
  pub low : character < 0xD800
  pub within : len ≤ length text
  pub bytes : take len text ≡ encode_utf8 character
  pub index_is : index_of character ≡ index
  pub small : index < 448

-- the same, and this is its entry, which is a code
pub record IsSingle (singles text : List ℕ) (code len : ℕ) : Type 0 where
  pub index : ℕ
  pub indexed : IsIndexed text index len
  pub entry : get_or singles index 256 ≡ code
  pub small : code < 256
