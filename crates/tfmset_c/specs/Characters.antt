-- The characters of a font, as C gets them.
-- This project's own; the values are defined in Character of `tfm_tables`. The four bytes of a recipe are those of
-- tftopl.web, section 14.
use Rattle.std.specs.Prelude.{ℕ, pos, nat_lt, List, [], ◌∷◌, map, slice_index, Option, Some, None, if◌then◌else◌}
use Rattle.std.specs.List.{range_with_len}
use Rattle.tfm_words.specs.declared.table.Table.TheVariants.{Exten}
use Rattle.tfm_tables.specs.declared.tag.Tag.{Tag}
use Rattle.tfm_tables.specs.declared.tag.Tag.TheVariants.{Plain, Lig, List as ListOf, Ext}
use Rattle.tfm_tables.specs.declared.metrics.Metrics.{Metrics}
use Rattle.tfm_tables.specs.Character.{metrics_of, tag_of}
use Rattle.tfm_tables.specs.Font.{FontValue}
use Rattle.tfm_tables.specs.Table.{entries_of, entry_at}
use Rattle.tfmset_c.specs.declared.characters.TfmsetCharacter.{TfmsetCharacter}

-- the number of a tag: 0 is no tag, 1 a lig/kern program, 2 a charlist, and 3 an extensible recipe
abbrev pub tag_number : Tag → ℕ
tag_number Plain = 0
tag_number (Lig _) = 1
tag_number (ListOf _) = 2
tag_number (Ext _) = 3

-- the remainder of a tag, or 0 if it has none
abbrev pub tag_rest : Tag → ℕ
tag_rest Plain = 0
tag_rest (Lig remainder) = remainder
tag_rest (ListOf remainder) = remainder
tag_rest (Ext remainder) = remainder

-- four zeros
abbrev pub no_recipe : List ℕ
no_recipe = 0 ∷ 0 ∷ 0 ∷ 0 ∷ []

-- the extensible recipe of a tag: the codes of its top, middle and bottom piece, and of the one that is repeated; zeros
-- if it has none
abbrev pub recipe_of : List ℕ → Tag → List ℕ
recipe_of words Plain = no_recipe
recipe_of words (Lig _) = no_recipe
recipe_of words (ListOf _) = no_recipe
recipe_of words (Ext number) = if nat_lt number (entries_of words Exten) then entry_at words Exten number else no_recipe

-- a character with these dimensions, this tag and this recipe
abbrev pub some_character : Metrics → Tag → List ℕ → TfmsetCharacter
some_character metrics tag recipe = record {
  exists = 1;
  width = metrics.width;
  height = metrics.height;
  depth = metrics.depth;
  italic = metrics.italic;
  tag = tag_number tag;
  remainder = tag_rest tag;
  top = slice_index recipe 0;
  middle = slice_index recipe 1;
  bottom = slice_index recipe 2;
  repeated = slice_index recipe 3;
}

-- a character that doesn't exist
abbrev pub no_character : TfmsetCharacter
no_character = record {
  exists = 0;
  width = pos 0;
  height = pos 0;
  depth = pos 0;
  italic = pos 0;
  tag = 0;
  remainder = 0;
  top = 0;
  middle = 0;
  bottom = 0;
  repeated = 0;
}

-- a character of a font with these words, if it exists
unfoldable pub character_told : List ℕ → Option Metrics → Option Tag → TfmsetCharacter
character_told words (Some metrics) (Some tag) = some_character metrics tag (recipe_of words tag)
character_told words (Some _) None = no_character
character_told words None _ = no_character

-- the character with this code
unfoldable pub character_at : FontValue → ℕ → TfmsetCharacter
character_at font code = character_told font.words (metrics_of font.words font.size code) (tag_of font.words code)

-- the characters of a font, by code
unfoldable pub characters_told : FontValue → List TfmsetCharacter
characters_told font = map (character_at font) (range_with_len 0 256)
