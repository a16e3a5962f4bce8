-- An encoded line: numbers, which are the codes of its characters, in order, and numbers from 256 on for the characters
-- that have none, and for breaks. At a break a run ends with the right boundary, and another one begins with the left
-- boundary, as at a space that has no width and no item.
-- Public source: tex.web §1034 to §1036 and §1117 for the soft hyphen, which is TeX's discretionary hyphen in a line
-- that isn't broken, and utf8enc.dfu for the non-breaking hyphen, which is set in a box of its own. The numbers are this
-- project's own; UTF-8 is that of the Unicode Standard, in the words of the toolchain's library.
use Rattle.std.specs.Prelude.{◌≡◌, ℕ, ◌+◌, Bool, cond, not, ◌&&◌, nat_eq, nat_lt, List, [], ◌∷◌, ◌++◌, map, flat_map, Option, Some, None, if◌then◌else◌, unwrap_or}
use Rattle.std.specs.Char.{len_utf8}
use Rattle.std.specs.List.{find, list_any}
use Rattle.std.specs.Option.{is_none, option_map_or}
use Rattle.std.specs.Str.{chars, is_utf8}
use Rattle.std.specs.Str.Lossy.{utf8_valid_len}
use Rattle.encodings.specs.declared.encoding.Encoding.{Encoding}
use Rattle.encodings.specs.declared.lines.EncodeFault.{EncodeFault}
use Rattle.encodings.specs.declared.lines.EncodeFault.TheVariants.{NotUtf8, OutOfMemory}
use Rattle.encodings.specs.declared.places.Place.{Place}
use Rattle.encodings.specs.Codes.{codes_of, is_apart}

-- ---- the characters of a line

-- characters in order, of which the first begins at this offset
abbrev pub places_from : ℕ → List ℕ → List Place
places_from offset [] = []
places_from offset (character ∷ characters) =
    record { offset = offset; character = character } ∷ places_from (offset + len_utf8 character) characters

-- characters without a byte order mark (U+FEFF) before them; only the first line of a source can have one
abbrev pub without_mark : Bool → List Place → List Place
without_mark first [] = []
without_mark first (place ∷ places) = cond (first && nat_eq place.character 0xFEFF) places (place ∷ places)

-- the characters of a line in UTF-8
unfoldable pub places_of : Bool → List ℕ → List Place
places_of first line = without_mark first (places_from 0 (chars line))

-- the first character of a line in UTF-8 that has no codes
abbrev pub first_uncoded : Encoding → List Place → Option Place
first_uncoded encoding places = find (λ place. is_none (codes_of encoding place.character)) places

-- ---- its numbers

-- whether a number of a line is a code; that of a character without codes or of a break isn't
abbrev pub is_code : ℕ → Bool
is_code number = nat_lt number 256

-- the number of a break; the soft hyphen, which always has codes, has no other number
abbrev pub break_number : ℕ
break_number = 256 + 0xAD

-- the codes of a character, between breaks if it is set apart
abbrev pub set_apart : ℕ → List ℕ → List ℕ
set_apart character codes = cond (is_apart character) (break_number ∷ codes ++ break_number ∷ []) codes

-- a character as numbers: its codes, set apart if need be, or 256 and its own number, if it has none
unfoldable pub numbers_of : Encoding → ℕ → List ℕ
numbers_of encoding character = option_map_or (set_apart character) (codes_of encoding character) ((256 + character) ∷ [])

-- the line as numbers
unfoldable pub encoded : Encoding → Bool → List ℕ → List ℕ
encoded encoding first line = flat_map (numbers_of encoding) (map (λ place. place.character) (places_of first line))

-- a code of a line, with the byte offset at which its character begins
pub record Element : Type 0 where
  pub offset : ℕ
  pub number : ℕ

-- the codes of the character at a place
abbrev pub elements_at : Encoding → Place → List Element
elements_at encoding place =
    map (λ code. record { offset = place.offset; number = code }) (unwrap_or (codes_of encoding place.character) [])

-- the codes of a line in UTF-8, in order, with their offsets
unfoldable pub elements_of : Encoding → Bool → List ℕ → List Element
elements_of encoding first line = flat_map (elements_at encoding) (places_of first line)

-- whether a line has a character without codes or a break
abbrev pub has_gaps : List ℕ → Bool
has_gaps line = list_any (λ number. not (is_code number)) line

-- ---- lines that aren't encoded

-- the byte offset at which a line stops being UTF-8, if it does
unfoldable pub fault_in : List ℕ → Option ℕ
fault_in line = if is_utf8 line then None else Some (utf8_valid_len line)

-- what a failure to encode a line states: an offset if the line isn't UTF-8, and otherwise memory
abbrev pub IsFaultOf : List ℕ → EncodeFault → Type 0
IsFaultOf line (NotUtf8 offset) = fault_in line ≡ Some offset
IsFaultOf line OutOfMemory = fault_in line ≡ None
