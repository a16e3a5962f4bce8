-- The contents of the char_info word of a character code, and the dimensions that it refers to.
-- Public source: tftopl.web, sections 11 and 12; tex.web, sections 543, 544 and 554.
use Rattle.std.specs.Prelude.{◌≡◌, ℕ, ℤ, pos, zero, suc, ◌-◌, ◌/◌, ◌%◌, ◌==◌, ◌&&◌, nat_le, not, Bool, List, slice_index, Option, Some, None, if◌then◌else◌}
use Rattle.std.specs.Option.{option_map_or}
use Rattle.tfm_words.specs.declared.table.Table.TheVariants.{CharInfo, Width, Height, Depth, Italic}
use Rattle.tfm_words.specs.Counts.{counts_of}
use Rattle.tfm_tables.specs.declared.tag.Tag.{Tag}
use Rattle.tfm_tables.specs.declared.tag.Tag.TheVariants.{Plain, Lig, List as ListOf, Ext}
use Rattle.tfm_tables.specs.declared.metrics.Metrics.{Metrics}
use Rattle.tfm_tables.specs.Table.{entry_at}
use Rattle.tfm_tables.specs.Measure.{measure_at, scaled_entry}

-- whether the font has a char_info word for this code: the code is from bc to ec
unfoldable pub is_coded : List ℕ → ℕ → Bool
is_coded words code = nat_le (counts_of words).bc code && nat_le code (counts_of words).ec

-- the char_info word of a code from bc to ec
unfoldable pub char_info_of : List ℕ → ℕ → List ℕ
char_info_of words code = entry_at words CharInfo (code - (counts_of words).bc)

-- the char_info word of a code, or none if the code isn't from bc to ec
abbrev pub info_where : List ℕ → ℕ → Option (List ℕ)
info_where words code = if is_coded words code then Some (char_info_of words code) else None

-- the index of the width in a char_info word: the first byte
abbrev pub width_index : List ℕ → ℕ
width_index info = slice_index info 0

-- the index of the height in a char_info word: the upper half of the second byte
abbrev pub height_index : List ℕ → ℕ
height_index info = slice_index info 1 / 16

-- the index of the depth in a char_info word: the lower half of the second byte
abbrev pub depth_index : List ℕ → ℕ
depth_index info = slice_index info 1 % 16

-- the index of the italic correction in a char_info word: the upper six bits of the third byte
abbrev pub italic_index : List ℕ → ℕ
italic_index info = slice_index info 2 / 4

-- the number of the tag in a char_info word, which gives the meaning of the remainder: the lower two bits
-- of the third byte
abbrev pub tag_number : List ℕ → ℕ
tag_number info = slice_index info 2 % 4

-- the remainder in a char_info word: the last byte
abbrev pub remainder_of : List ℕ → ℕ
remainder_of info = slice_index info 3

-- whether a character exists: its code has a char_info word whose width index isn't 0
unfoldable pub exists : List ℕ → ℕ → Bool
exists words code = is_coded words code && not (width_index (char_info_of words code) == 0)

-- the tag with this number, from 0 to 3, and this remainder: nothing, a lig/kern program, a charlist, an
-- extensible recipe
abbrev pub tag_with : ℕ → ℕ → Tag
tag_with zero remainder = Plain
tag_with (suc zero) remainder = Lig remainder
tag_with (suc (suc zero)) remainder = ListOf remainder
tag_with (suc (suc (suc _))) remainder = Ext remainder

-- the tag of a character, or none if the character doesn't exist
abbrev pub tag_of : List ℕ → ℕ → Option Tag
tag_of words code =
    if exists words code then Some (tag_with (tag_number (char_info_of words code)) (remainder_of (char_info_of words code))) else None

-- the width of a code that has a char_info word, in sp at a size, whether or not the character exists
abbrev pub width_of : List ℕ → ℕ → ℕ → ℤ
width_of words size code = measure_at words size Width (width_index (char_info_of words code))

-- the four dimensions of a code that has a char_info word, in sp at a size, whether or not the character
-- exists
abbrev pub measures_of : List ℕ → ℕ → ℕ → Metrics
measures_of words size code = record {
  width = width_of words size code;
  height = measure_at words size Height (height_index (char_info_of words code));
  depth = measure_at words size Depth (depth_index (char_info_of words code));
  italic = measure_at words size Italic (italic_index (char_info_of words code));
}

-- each of these dimensions is the scaled value, at a size, of the entry to which the char_info word of the
-- code refers, and each of these entries can be scaled
pub record AreScaled (words : List ℕ) (size code : ℕ) (metrics : Metrics) : Type 0 where
  pub width : scaled_entry words size Width (width_index (char_info_of words code)) ≡ Some metrics.width
  pub height : scaled_entry words size Height (height_index (char_info_of words code)) ≡ Some metrics.height
  pub depth : scaled_entry words size Depth (depth_index (char_info_of words code)) ≡ Some metrics.depth
  pub italic : scaled_entry words size Italic (italic_index (char_info_of words code)) ≡ Some metrics.italic

-- the dimensions of a character in sp at a size, or none if the character doesn't exist
abbrev pub metrics_of : List ℕ → ℕ → ℕ → Option Metrics
metrics_of words size code = if exists words code then Some (measures_of words size code) else None

-- the width among these dimensions, or 0 if there are no dimensions
abbrev pub width_in : Option Metrics → ℤ
width_in metrics = option_map_or (λ some. some.width) metrics (pos 0)

-- the width of a character in sp at a size, or 0 if the character doesn't exist
abbrev pub character_width_of : List ℕ → ℕ → ℕ → ℤ
character_width_of words size code = width_in (metrics_of words size code)
