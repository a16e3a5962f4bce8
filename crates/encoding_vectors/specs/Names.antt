-- The character of a glyph's name.
-- Public source: Adobe Glyph List Specification, section 2 (the forms uniXXXX and uXXXX to uXXXXXX), for
-- names without a period or an underscore, and with one number.
use Rattle.std.specs.Prelude.{ℕ, Bool, ◌&&◌, ◌||◌, cond, nat_eq, nat_le, List, take, drop, length, slice_index, Option, Some, None, option_and_then, bytes_eq, codes}
use lib.Utf8.{scalar}
use Rattle.std.specs.List.{list_all}
use Rattle.std.specs.Option.{option_or}
use Rattle.std.specs.Str.Parse.{digits_value}
use Rattle.encoding_vectors.specs.Glyphs.{listed_digits}

-- ---- numbers

-- a hexadecimal digit in upper case
abbrev pub is_upper_hex : ℕ → Bool
is_upper_hex byte = (nat_le 48 byte && nat_le byte 57) || (nat_le 65 byte && nat_le byte 70)

-- the number that such digits write, if they are
abbrev pub hex_number : List ℕ → Option ℕ
hex_number digits = cond (list_all is_upper_hex digits) (Some (digits_value 16 digits)) None

-- the character of this number, if it is a scalar value of Unicode: at most 10FFFF, and no surrogate
abbrev pub as_character : ℕ → Option ℕ
as_character number = cond (scalar number) (Some number) None

-- the character whose number these digits write, if they do
unfoldable pub written_character : List ℕ → Option ℕ
written_character digits = option_and_then as_character (hex_number digits)

-- the digits after `uni`, of which there are four, or after `u`, of which there are four to six
abbrev pub digits_of_name : List ℕ → Option (List ℕ)
digits_of_name name =
    cond (bytes_eq (take 3 name) (codes "uni") && nat_eq (length name) 7) (Some (drop 3 name))
    (cond (nat_eq (slice_index name 0) 117 && (nat_le 5 (length name) && nat_le (length name) 7))
    (Some (drop 1 name)) None)

-- the character whose number a name states
unfoldable pub numbered_character : List ℕ → Option ℕ
numbered_character name = option_and_then written_character (digits_of_name name)

-- ---- names

-- the character of a name, if it has one
unfoldable pub character_of : List ℕ → Option ℕ
character_of name = option_or (numbered_character name) (option_and_then written_character (listed_digits name))
