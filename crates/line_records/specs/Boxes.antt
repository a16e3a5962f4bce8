-- The box of a line that is set, and the texts of records in each format.
-- Public source: tex.web, sections 649, 651, 654 and 656, for the dimensions of a box of kerns, characters and glue
-- that is set at its natural width. The form of the record is this project's own.
use Rattle.std.specs.Prelude.{ℕ, ℤ, pos, Bool, true, false, List, [], ◌∷◌, ◌++◌, codes, decimal, flat_map, map}
use Rattle.std.specs.Int.{int_max}
use Rattle.std.specs.List.{count_by, fold}
use Rattle.std.specs.Option.{option_map_or}
use Rattle.tfm_tables.specs.Character.{metrics_of}
use Rattle.tfm_tables.specs.Font.{FontValue}
use Rattle.tex_sizes.specs.declared.length_unit.LengthUnit.{LengthUnit}
use Rattle.tex_sizes.specs.Lengths.{length_text}
use Rattle.lig_kern.specs.declared.item.Item.{Item}
use Rattle.lig_kern.specs.declared.item.Item.TheVariants.{Char, Kern, Space, Skipped}
use Rattle.set_line.specs.Record.{text_in}
use Rattle.set_line.specs.Width.{total_width}
use Rattle.formats.specs.declared.record_format.RecordFormat.{RecordFormat}
use Rattle.formats.specs.declared.record_format.RecordFormat.TheVariants.{Items, Box}

-- ---- the box

-- the code of an item if the item is a character
abbrev pub code_in : Item → List ℕ
code_in (Char code width) = code ∷ []
code_in (Kern amount) = []
code_in (Space amount) = []
code_in (Skipped code) = []

-- whether an item is a space
abbrev pub is_glue : Item → Bool
is_glue (Char code width) = false
is_glue (Kern amount) = false
is_glue (Space amount) = true
is_glue (Skipped code) = false

-- whether an item is a character that was skipped
abbrev pub is_skipped : Item → Bool
is_skipped (Char code width) = false
is_skipped (Kern amount) = false
is_skipped (Space amount) = false
is_skipped (Skipped code) = true

-- the height of a character, in sp; 0 for a code without a character
abbrev pub height_of : FontValue → ℕ → ℤ
height_of font code = option_map_or (λ metrics. metrics.height) (metrics_of font.words font.size code) (pos 0)

-- the depth of a character, in sp; 0 for a code without a character
abbrev pub depth_of : FontValue → ℕ → ℤ
depth_of font code = option_map_or (λ metrics. metrics.depth) (metrics_of font.words font.size code) (pos 0)

-- the largest of 0 and these amounts
abbrev pub largest : List ℤ → ℤ
largest amounts = fold int_max (pos 0) amounts

-- the dimensions of a box in sp, the number of its spaces, and the number of characters that were skipped
pub record BoxValue : Type 0 where
  pub width : ℤ
  pub height : ℤ
  pub depth : ℤ
  pub spaces : ℕ
  pub skipped : ℕ

-- the box of items: a box is as high and as deep as its highest and its deepest character reach, but neither its
-- height nor its depth is negative; no other item has a height or a depth
abbrev pub box_of : FontValue → List Item → BoxValue
box_of font items = record {
  width = total_width items;
  height = largest (map (height_of font) (flat_map code_in items));
  depth = largest (map (depth_of font) (flat_map code_in items));
  spaces = count_by is_glue items;
  skipped = count_by is_skipped items;
}

-- ---- texts

-- the text that is kept of an item: its text in the record, or for a box its code
abbrev pub item_text : RecordFormat → Item → List ℕ
item_text (Items version) = text_in version
item_text (Box unit) = code_in

-- the text of the numbers of spaces and of skipped characters
unfoldable pub numbers_text : ℕ → ℕ → List ℕ
numbers_text spaces skipped = codes " " ++ decimal spaces ++ codes " " ++ decimal skipped

-- the text of a box: its width, height and depth in a unit, the number of its spaces, and that of skipped characters
unfoldable pub box_text : LengthUnit → BoxValue → List ℕ
box_text unit box =
    codes " " ++ length_text unit box.width ++ codes " " ++ length_text unit box.height
    ++ codes " " ++ length_text unit box.depth ++ numbers_text box.spaces box.skipped

-- the record of a box with this text
abbrev pub box_record : ℕ → ℕ → List ℕ → List ℕ
box_record source place text = decimal source ++ codes ":" ++ decimal place ++ codes " box" ++ text ++ codes "\n"
