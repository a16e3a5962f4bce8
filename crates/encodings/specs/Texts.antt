-- The codes of a text of several lines, with the offsets of the characters that they come from.
-- This project's own; the codes of a character are defined in Codes.
use Rattle.std.specs.Prelude.{◌≡◌, ◌≤◌, ℕ, ◌+◌, ◌^◌, Bool, cond, nat_eq, ◌||◌, ◌&&◌, get_or, List, [], ◌∷◌, ◌++◌, length, map, flat_map, Option, Some}
use Rattle.std.specs.List.{filter, range_with_len}
use Rattle.std.specs.Option.{is_none, unwrap_or}
use Rattle.encodings.specs.declared.encoding.Encoding.{Encoding}
use Rattle.encodings.specs.declared.places.Place.{Place}
use Rattle.encodings.specs.Codes.{codes_of}
use Rattle.encodings.specs.Decoding.{is_plain}

-- the codes of a character of a text, if it has any: the line feed is kept, and ends a line
abbrev pub text_codes : Encoding → ℕ → Option (List ℕ)
text_codes encoding character = cond (nat_eq character 10) (Some (10 ∷ [])) (codes_of encoding character)

-- the codes of the character at a place; one without codes has none
abbrev pub codes_there : Encoding → Place → List ℕ
codes_there encoding place = unwrap_or (text_codes encoding place.character) []

-- the codes of these characters, in order
abbrev pub codes_at : Encoding → List Place → List ℕ
codes_at encoding places = flat_map (codes_there encoding) places

-- for each of these codes the offset of its character
abbrev pub offsets_at : Encoding → List Place → List ℕ
offsets_at encoding places = flat_map (λ place. map (λ _. place.offset) (codes_there encoding place)) places

-- those of these characters that have no codes
abbrev pub uncoded_at : Encoding → List Place → List Place
uncoded_at encoding places = filter (λ place. is_none (text_codes encoding place.character)) places

-- of these characters those that are left have been taken away: each was one byte long and has itself as its only
-- code, and the first one was at this offset
pub record IsKeptFront (encoding : Encoding) (offset : ℕ) (bytes : List ℕ) (places left : List Place) : Type 0 where
  pub codes : codes_at encoding places ≡ bytes ++ codes_at encoding left
  pub offsets : offsets_at encoding places ≡ range_with_len offset (length bytes) ++ offsets_at encoding left
  pub uncoded : uncoded_at encoding places ≡ uncoded_at encoding left
  pub fewer : length left ≤ length places
  pub small : offset + length bytes ≤ 2 ^ 63

-- whether a byte is plain, or a line feed without a single code, in a table of single codes
abbrev pub is_kept : List ℕ → ℕ → Bool
is_kept singles byte = is_plain singles byte || (nat_eq (get_or singles byte 0) 256 && nat_eq byte 10)
