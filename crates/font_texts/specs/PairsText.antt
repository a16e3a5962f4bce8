-- The text of the pairs of a font: a line for each pair, in one of three formats.
-- Public source: the names of the ligature operations are those of tftopl.web, section 13, and The
-- METAFONTbook, Appendix F; JSON is RFC 8259, and CSV is RFC 4180 except that a line ends with a line feed;
-- the rest is this project's own.
use Rattle.std.specs.Prelude.{ℕ, Bool, List, [], ◌++◌, codes, decimal, flat_map, replicate, if◌then◌else◌}
use Rattle.tex_sizes.specs.declared.length_unit.LengthUnit.{LengthUnit}
use Rattle.lig_kern.specs.declared.action.Action.{Action}
use Rattle.lig_kern.specs.declared.action.Action.TheVariants.{Kern, Lig}
use Rattle.lig_kern.specs.declared.symbol.Symbol.{Symbol}
use Rattle.lig_kern.specs.declared.symbol.Symbol.TheVariants.{Left, Char, Right}
use Rattle.tfm_tables.specs.Font.{FontValue}
use Rattle.formats.specs.declared.listing.OutputFormat.{OutputFormat}
use Rattle.formats.specs.declared.listing.OutputFormat.TheVariants.{Text as InText, Json as InJson}
use Rattle.formats.specs.declared.pairs.PairsFormat.{PairsFormat}
use Rattle.formats.specs.declared.pairs.PairsFormat.TheVariants.{Text, Csv, Json}
use Rattle.font_texts.specs.Pairs.{pairs_of}
use Rattle.font_texts.specs.ListingFormats.{length_in, word_in}
use Rattle.font_texts.specs.declared.pair.Pair.{Pair}

-- a symbol: the code of a character, or the name of a boundary, which is a string in JSON
unfoldable pub symbol_in : OutputFormat → Symbol → List ℕ
symbol_in format Left = word_in format (codes "left")
symbol_in format (Char code) = decimal code
symbol_in format Right = word_in format (codes "right")

-- a slash for a neighbour that is kept
abbrev pub slash_if : Bool → List ℕ
slash_if kept = if kept then codes "/" else []

-- the name of an action: `kern`, or that of a ligature operation, which has a slash on the side of each
-- neighbour that is kept, and a `>` for each element that the cursor passes over
unfoldable pub action_name : Action → List ℕ
action_name (Kern amount) = codes "kern"
action_name (Lig code keep_left keep_right pass) = slash_if keep_left ++ codes "LIG" ++ slash_if keep_right ++ replicate pass 62

-- the value of an action: the amount of a kern in a unit, or the code of a ligature character; in JSON it is a number,
-- except that a kern in a unit other than sp is a string
unfoldable pub action_value : OutputFormat → LengthUnit → Action → List ℕ
action_value format unit (Kern amount) = length_in (record { format = format; unit = unit }) amount
action_value format unit (Lig code keep_left keep_right pass) = decimal code

-- the four fields of a pair with a separator between neighbours
abbrev pub pair_fields : LengthUnit → List ℕ → Pair → List ℕ
pair_fields unit separator pair =
    symbol_in InText pair.left ++ separator ++ symbol_in InText pair.right ++ separator
    ++ action_name pair.action ++ separator ++ action_value InText unit pair.action

-- the same four fields as the members of a JSON object
abbrev pub pair_members : LengthUnit → Pair → List ℕ
pair_members unit pair =
    codes "\"left\":" ++ symbol_in InJson pair.left ++ codes ",\"right\":" ++ symbol_in InJson pair.right
    ++ codes ",\"action\":\"" ++ action_name pair.action ++ codes "\",\"value\":"
    ++ action_value InJson unit pair.action

-- the line of a pair in a format, up to its end
unfoldable pub pair_front : LengthUnit → PairsFormat → Pair → List ℕ
pair_front unit Text pair = pair_fields unit (codes " ") pair
pair_front unit Csv pair = pair_fields unit (codes ",") pair
pair_front unit Json pair = codes "{" ++ pair_members unit pair

-- the end of a line
unfoldable pub line_end : PairsFormat → List ℕ
line_end Text = codes "\n"
line_end Csv = codes "\n"
line_end Json = codes "}\n"

-- the line of a pair in a format
abbrev pub pair_line : LengthUnit → PairsFormat → Pair → List ℕ
pair_line unit format pair = pair_front unit format pair ++ line_end format

-- the line before the pairs, which only CSV has
unfoldable pub pairs_head : PairsFormat → List ℕ
pairs_head Text = []
pairs_head Csv = codes "left,right,action,value\n"
pairs_head Json = []

-- the text of the pairs of a font, with kerns in a unit
unfoldable pub pairs_text_of : LengthUnit → PairsFormat → FontValue → List ℕ
pairs_text_of unit format font = pairs_head format ++ flat_map (pair_line unit format) (pairs_of font)
