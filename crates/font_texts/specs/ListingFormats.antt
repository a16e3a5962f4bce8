-- The names and the values of a listing in its two formats, text and JSON.
-- Public source: JSON is RFC 8259; the rest is this project's own.
use Rattle.std.specs.Prelude.{ℕ, ℤ, Bool, List, [], ◌++◌, Option, codes, decimal, drop, if◌then◌else◌}
use Rattle.std.specs.Option.{option_map_or}
use Rattle.tex_sizes.specs.Lengths.{length_text}
use Rattle.tex_sizes.specs.declared.length_unit.LengthUnit.{LengthUnit}
use Rattle.tex_sizes.specs.declared.length_unit.LengthUnit.TheVariants.{ScaledPoints}
use Rattle.formats.specs.declared.listing.OutputFormat.{OutputFormat}
use Rattle.formats.specs.declared.listing.OutputFormat.TheVariants.{Text, Json}
use Rattle.formats.specs.declared.listing.ListLayout.{ListLayout}
use Rattle.font_texts.specs.JsonText.{json_text}
use Rattle.font_texts.specs.ListingWords.{escaped_text}

-- the first one in text, and the second one in JSON
abbrev pub in_format : OutputFormat → List ℕ → List ℕ → List ℕ
in_format Text text json = text
in_format Json text json = json

-- ---- values

-- a name, such as that of a tag, which is a string in JSON
unfoldable pub word_in : OutputFormat → List ℕ → List ℕ
word_in format word = in_format format word (codes "\"" ++ word ++ codes "\"")

-- a flag
abbrev pub flag_in : OutputFormat → Bool → List ℕ
flag_in format flag = if flag then in_format format (codes "yes") (codes "true") else in_format format (codes "no") (codes "false")

-- a number, which there may be none of
abbrev pub number_or_none : OutputFormat → Option ℕ → List ℕ
number_or_none format number = option_map_or decimal number (in_format format (codes "none") (codes "null"))

-- a text of the header
unfoldable pub string_in : OutputFormat → List ℕ → List ℕ
string_in format text = in_format format (escaped_text text) (codes "\"" ++ json_text text ++ codes "\"")

-- what precedes and follows a length: a double quote in JSON, if the unit isn't sp
unfoldable pub length_quote : OutputFormat → LengthUnit → List ℕ
length_quote Text unit = []
length_quote Json ScaledPoints = []
length_quote Json unit = codes "\""

-- a length of so many sp
unfoldable pub length_in : ListLayout → ℤ → List ℕ
length_in layout sp = length_quote layout.format layout.unit ++ length_text layout.unit sp ++ length_quote layout.format layout.unit

-- ---- names and values

-- a name and what follows it
abbrev pub name_in : OutputFormat → List ℕ → List ℕ
name_in format name = name ++ in_format format (codes " ") (codes "\":")

-- what precedes the value of an entry
abbrev pub entry_start : OutputFormat → List ℕ → List ℕ
entry_start format name = in_format format [] (codes ",\"") ++ name_in format name

-- an entry: a line of text with a name and a value, or a member of the JSON object of the font, with a comma before
-- it
unfoldable pub entry : OutputFormat → List ℕ → List ℕ → List ℕ
entry format name value = entry_start format name ++ value ++ in_format format (codes "\n") []

-- the name of a field, which precedes its value
unfoldable pub field_name : OutputFormat → List ℕ → List ℕ
field_name format name = in_format format (codes " ") (codes ",\"") ++ name_in format name

-- the name of a field that text doesn't have
unfoldable pub hidden_name : OutputFormat → List ℕ → List ℕ
hidden_name format name = in_format format (codes " ") (codes ",\"" ++ name_in format name)

-- what precedes the number of a line
abbrev pub line_start : OutputFormat → List ℕ → List ℕ
line_start format name = in_format format [] (codes ",{\"") ++ name_in format name

-- the end of a line
abbrev pub line_end : OutputFormat → List ℕ
line_end format = in_format format (codes "\n") (codes "}")

-- a line of text with a name, a number and fields, or a JSON object of these, with a comma before it
unfoldable pub line_of : OutputFormat → List ℕ → ℕ → List ℕ → List ℕ
line_of format name number fields = line_start format name ++ decimal number ++ fields ++ line_end format

-- these lines, one after the other, or a member of the JSON object of the font: a list of these objects
unfoldable pub table_of_lines : OutputFormat → List ℕ → List ℕ → List ℕ
table_of_lines format name lines = in_format format lines (codes ",\"" ++ name_in format name ++ codes "[" ++ drop 1 lines ++ codes "]")
