-- The listing of a font, as lines of text or as a JSON object in one line.
-- This project's own; ListingFormats defines the form of names and values, and ListingFields the fields of lines.
use Rattle.std.specs.Prelude.{ℕ, ℤ, ◌==◌, Bool, List, [], ◌++◌, filter, flat_map, codes, decimal, Option, option_map, pos, if◌then◌else◌}
use Rattle.std.specs.List.{range_with_len}
use Rattle.std.specs.Option.{option_map_or}
use Rattle.std.specs.Result.{result_unwrap_or}
use Rattle.tex_sizes.specs.Lengths.{unit_name}
use Rattle.tex_sizes.specs.declared.length_unit.LengthUnit.TheVariants.{ScaledPoints}
use Rattle.tfm_words.specs.declared.table.Table.TheVariants.{LigKern, Kern, Param}
use Rattle.tfm_words.specs.DesignSize.{design_size_of}
use Rattle.tfm_tables.specs.declared.left_side.LeftSide.TheVariants.{Boundary}
use Rattle.tfm_tables.specs.Table.{entries_of}
use Rattle.tfm_tables.specs.Header.{check_sum_of, coding_of, face_of, family_of, seven_bit_of}
use Rattle.tfm_tables.specs.Character.{exists, char_info_of, measures_of, remainder_of, tag_number, tag_with}
use Rattle.tfm_tables.specs.Measure.{kern_at, parameter_of}
use Rattle.tfm_tables.specs.Program.{program_of, right_code_of, start_of, step_at}
use Rattle.tfm_tables.specs.Font.{FontValue}
use Rattle.formats.specs.declared.listing.OutputFormat.{OutputFormat}
use Rattle.formats.specs.declared.listing.ListLayout.{ListLayout}
use Rattle.font_texts.specs.ListingFields.{char_fields, step_fields}
use Rattle.font_texts.specs.ListingFormats.{entry, flag_in, hidden_name, in_format, length_in, line_of, number_or_none, string_in, table_of_lines}

-- ---- the entries of the header

-- an entry with a length
abbrev pub length_entry : ListLayout → List ℕ → ℤ → List ℕ
length_entry layout name sp = entry layout.format name (length_in layout sp)

-- the entry of this value, or nothing if there is no value
abbrev pub entry_where : OutputFormat → List ℕ → Option (List ℕ) → List ℕ
entry_where format name value = option_map_or (entry format name) value []

-- the check sum, the design size, and the size that the font is read at
unfoldable pub size_entries : ListLayout → FontValue → List ℕ
size_entries layout font =
    entry layout.format (codes "checksum") (decimal (check_sum_of font.words))
    ++ length_entry layout (codes "design") (pos (result_unwrap_or (design_size_of font.words) 0))
    ++ length_entry layout (codes "size") (pos font.size)

-- a text of the header, if the header contains it
unfoldable pub text_where : OutputFormat → List ℕ → Option (List ℕ) → List ℕ
text_where format name text = entry_where format name (option_map (string_in format) text)

-- a flag of the header, if the header contains it
unfoldable pub flag_where : OutputFormat → List ℕ → Option Bool → List ℕ
flag_where format name flag = entry_where format name (option_map (flag_in format) flag)

-- a number of the header, if the header contains it
unfoldable pub number_where : OutputFormat → List ℕ → Option ℕ → List ℕ
number_where format name number = entry_where format name (option_map decimal number)

-- those header entries that a header may be too short to contain: coding scheme, family, seven-bit flag and face
unfoldable pub header_entries : OutputFormat → FontValue → List ℕ
header_entries format font =
    text_where format (codes "coding") (coding_of font.words)
    ++ text_where format (codes "family") (family_of font.words)
    ++ flag_where format (codes "sevenbit") (seven_bit_of font.words)
    ++ number_where format (codes "face") (face_of font.words)

-- the code of the right boundary character, and the starting address of the left boundary's program
unfoldable pub boundary_entries : OutputFormat → FontValue → List ℕ
boundary_entries format font =
    entry format (codes "right") (number_or_none format (right_code_of (program_of font.words)))
    ++ entry format (codes "left") (number_or_none format (start_of font.words Boundary))

-- ---- the tables

-- the line of an existing character
unfoldable pub char_line : ListLayout → FontValue → ℕ → List ℕ
char_line layout font code =
    line_of layout.format (codes "char") code
    (char_fields layout (measures_of font.words font.size code)
    (tag_with (tag_number (char_info_of font.words code)) (remainder_of (char_info_of font.words code))))

-- the line of the instruction at an address
unfoldable pub step_line : ListLayout → FontValue → ℕ → List ℕ
step_line layout font i = line_of layout.format (codes "step") i (step_fields layout font (step_at font.words i))

-- a line with an index and a length
abbrev pub length_line : ListLayout → List ℕ → ℕ → ℤ → List ℕ
length_line layout name number sp = line_of layout.format name number (hidden_name layout.format (codes "value") ++ length_in layout sp)

-- the line of kern k
unfoldable pub kern_line : ListLayout → FontValue → ℕ → List ℕ
kern_line layout font k = length_line layout (codes "kern") k (kern_at font.words font.size k)

-- the layout of parameter n; the slant, number 1, is a ratio, and is printed as a number of units of 2^-20
abbrev pub param_layout : ListLayout → ℕ → ListLayout
param_layout layout n = record layout { unit = if n == 1 then ScaledPoints else layout.unit }

-- the line of parameter n
unfoldable pub param_line : ListLayout → FontValue → ℕ → List ℕ
param_line layout font n = length_line (param_layout layout n) (codes "param") n (parameter_of font.words font.size n)

-- the codes that a character may have, 0 to 255
unfoldable pub all_codes : List ℕ
all_codes = range_with_len 0 256

-- the lines of the existing characters, in the order of their codes
unfoldable pub char_lines : ListLayout → FontValue → List ℕ
char_lines layout font = flat_map (char_line layout font) (filter (exists font.words) all_codes)

-- the lines of the instructions, in the order of their addresses
unfoldable pub step_lines : ListLayout → FontValue → List ℕ
step_lines layout font = flat_map (step_line layout font) (range_with_len 0 (entries_of font.words LigKern))

-- the lines of the kerns, from 0
unfoldable pub kern_lines : ListLayout → FontValue → List ℕ
kern_lines layout font = flat_map (kern_line layout font) (range_with_len 0 (entries_of font.words Kern))

-- the lines of the parameters, from 1
unfoldable pub param_lines : ListLayout → FontValue → List ℕ
param_lines layout font = flat_map (param_line layout font) (range_with_len 1 (entries_of font.words Param))

-- ---- the whole

-- the entries and the tables of a font
unfoldable pub contents_of : ListLayout → FontValue → List ℕ
contents_of layout font =
    size_entries layout font
    ++ header_entries layout.format font
    ++ boundary_entries layout.format font
    ++ table_of_lines layout.format (codes "chars") (char_lines layout font)
    ++ table_of_lines layout.format (codes "steps") (step_lines layout font)
    ++ table_of_lines layout.format (codes "kerns") (kern_lines layout font)
    ++ table_of_lines layout.format (codes "params") (param_lines layout font)

-- what a listing begins with: in JSON the name of the unit
unfoldable pub listing_head : ListLayout → List ℕ
listing_head layout = in_format layout.format [] (codes "{\"unit\":\"" ++ unit_name layout.unit ++ codes "\"")

-- the end of a listing
abbrev pub listing_end : OutputFormat → List ℕ
listing_end format = in_format format [] (codes "}\n")

-- the listing of a font
unfoldable pub listing_of : ListLayout → FontValue → List ℕ
listing_of layout font = listing_head layout ++ contents_of layout font ++ listing_end layout.format
