-- The full listing of a font: the twelve counts, the contents of the listing, the extensible recipes, and each of
-- the lf words of the file.
-- Public source: the four bytes of a recipe are those of tftopl.web, section 14; the text is this project's
-- own.
use Rattle.std.specs.Prelude.{ℕ, List, ◌++◌, codes, flat_map, slice_index}
use Rattle.std.specs.List.{range_with_len}
use Rattle.tfm_words.specs.declared.table.Table.TheVariants.{Exten}
use Rattle.tfm_words.specs.Counts.{counts_of}
use Rattle.tfm_words.specs.Word.{word_at}
use Rattle.tfm_tables.specs.Font.{FontValue}
use Rattle.tfm_tables.specs.Table.{entries_of, entry_at}
use Rattle.formats.specs.declared.listing.OutputFormat.{OutputFormat}
use Rattle.formats.specs.declared.listing.ListLayout.{ListLayout}
use Rattle.font_texts.specs.CountsText.{count_rows, count_rows_text}
use Rattle.font_texts.specs.Listing.{contents_of, listing_end, listing_head}
use Rattle.font_texts.specs.ListingFields.{number_field}
use Rattle.font_texts.specs.ListingFormats.{hidden_name, line_of, table_of_lines, word_in}
use Rattle.font_texts.specs.ListingWords.{hex_text}

-- the fields for the four pieces of an extensible recipe: the top, the middle, the bottom, and the piece that
-- is repeated
unfoldable pub piece_fields : OutputFormat → List ℕ → List ℕ
piece_fields format recipe =
    number_field format (codes "top") (slice_index recipe 0)
    ++ number_field format (codes "mid") (slice_index recipe 1)
    ++ number_field format (codes "bot") (slice_index recipe 2)
    ++ number_field format (codes "rep") (slice_index recipe 3)

-- the line of extensible recipe i, from 0
unfoldable pub recipe_line : OutputFormat → FontValue → ℕ → List ℕ
recipe_line format font i = line_of format (codes "recipe") i (piece_fields format (entry_at font.words Exten i))

-- the line of word i, from 0
unfoldable pub word_line : OutputFormat → List ℕ → ℕ → List ℕ
word_line format words i =
    line_of format (codes "word") i (hidden_name format (codes "bytes") ++ word_in format (hex_text (word_at words i)))

-- the lines of the extensible recipes, from 0
unfoldable pub recipe_lines : OutputFormat → FontValue → List ℕ
recipe_lines format font = flat_map (recipe_line format font) (range_with_len 0 (entries_of font.words Exten))

-- the lines of the lf words of the file, from 0, in hexadecimal and without interpretation
unfoldable pub word_lines : OutputFormat → FontValue → List ℕ
word_lines format font = flat_map (word_line format font.words) (range_with_len 0 (counts_of font.words).lf)

-- the full listing of a font
unfoldable pub all_listing_of : ListLayout → FontValue → List ℕ
all_listing_of layout font =
    listing_head layout
    ++ count_rows_text layout.format (count_rows (counts_of font.words))
    ++ contents_of layout font
    ++ table_of_lines layout.format (codes "recipes") (recipe_lines layout.format font)
    ++ table_of_lines layout.format (codes "words") (word_lines layout.format font)
    ++ listing_end layout.format
