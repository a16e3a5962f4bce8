-- The sizes, boundaries, counts and header texts of a font, as C gets them.
-- This project's own; the values are defined in `tfm_tables` and `tfm_words`.
use Rattle.std.specs.Prelude.{ℕ, ◌==◌, List, [], is_some, Bool, true, false, if◌then◌else◌}
use Rattle.std.specs.Option.{option_map_or, unwrap_or}
use Rattle.tfm_words.specs.DesignSize.{design_size_of}
use Rattle.tfm_words.specs.declared.table.Table.TheVariants.{LigKern, Kern, Param}
use Rattle.tfm_tables.specs.declared.left_side.LeftSide.TheVariants.{Boundary}
use Rattle.tfm_tables.specs.Font.{FontValue}
use Rattle.tfm_tables.specs.Header.{check_sum_of, coding_of, family_of}
use Rattle.tfm_tables.specs.Program.{program_of, right_code_of, start_of}
use Rattle.tfm_tables.specs.Table.{entries_of}
use Rattle.tfmset_c.specs.Reading.{size_or_zero}
use Rattle.tfmset_c.specs.declared.font.TfmsetAbout.{TfmsetAbout}

-- the code of the right boundary character, or 256 if the font has none
unfoldable pub right_or_none : List ℕ → ℕ
right_or_none words = option_map_or (λ code. code) (right_code_of (program_of words)) 256

-- 1 for true and 0 for false
abbrev pub flag : Bool → ℕ
flag true = 1
flag false = 0

-- the sizes, boundaries and counts of a font
unfoldable pub font_told : FontValue → TfmsetAbout
font_told font = record {
  parameters = entries_of font.words Param;
  kerns = entries_of font.words Kern;
  instructions = entries_of font.words LigKern;
  design_size = size_or_zero (design_size_of font.words);
  size = font.size;
  check_sum = check_sum_of font.words;
  right_boundary = right_or_none font.words;
  left_boundary = flag (is_some (start_of font.words Boundary));
}

-- a text in the header of the font with these words, empty if the header is too short for it: the coding scheme for 0,
-- and the family for any other number
unfoldable pub header_text_of : List ℕ → ℕ → List ℕ
header_text_of words which = unwrap_or (if which == 0 then coding_of words else family_of words) []
