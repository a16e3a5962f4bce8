-- The text of the pairs of a font with an encoding: the characters are printed after the codes.
-- Public source: the name of a character, as U+00A0, is that of the Unicode Standard, appendix A, and UTF-8 that
-- of its section 3.9; the escapes of JSON are those of RFC 8259, section 7, and the quotes of CSV those of
-- RFC 4180, section 2; the rest is this project's own.
use Rattle.std.specs.Prelude.{◌≡◌, ℕ, ◌/◌, ◌%◌, Bool, true, nat_eq, ◌||◌, List, [], ◌∷◌, ◌++◌, codes, flat_map, Option, Some, None, if◌then◌else◌}
use Rattle.std.specs.Char.{encode_utf8, is_control}
use Rattle.std.specs.Fmt.{digit_glyph}
use Rattle.std.specs.Option.{option_map_or}
use Rattle.encodings.specs.Characters.{character_of}
use Rattle.encodings.specs.declared.encoding.Encoding.{Encoding}
use Rattle.tex_sizes.specs.declared.length_unit.LengthUnit.{LengthUnit}
use Rattle.lig_kern.specs.declared.action.Action.{Action}
use Rattle.lig_kern.specs.declared.action.Action.TheVariants.{Kern, Lig}
use Rattle.lig_kern.specs.declared.symbol.Symbol.{Symbol}
use Rattle.lig_kern.specs.declared.symbol.Symbol.TheVariants.{Left, Char, Right}
use Rattle.tfm_tables.specs.Font.{FontValue}
use Rattle.formats.specs.declared.pairs.PairsFormat.{PairsFormat}
use Rattle.formats.specs.declared.pairs.PairsFormat.TheVariants.{Text, Csv, Json}
use Rattle.font_texts.specs.JsonText.{json_string}
use Rattle.font_texts.specs.Pairs.{pairs_of}
use Rattle.font_texts.specs.PairsText.{line_end, pair_front, pairs_head, pairs_text_of}
use Rattle.font_texts.specs.declared.pair.Pair.{Pair}

-- ---- the characters of a pair

-- the character of a symbol; a boundary has none
unfoldable pub symbol_character : Encoding → Symbol → Option ℕ
symbol_character encoding Left = None
symbol_character encoding (Char code) = character_of encoding code
symbol_character encoding Right = None

-- the character that an action inserts; a kern inserts none
unfoldable pub value_character : Encoding → Action → Option ℕ
value_character encoding (Kern amount) = None
value_character encoding (Lig code keep_left keep_right pass) = character_of encoding code

-- ---- a character in each format

-- whether a character is replaced by its name, since it is seen as a space or not at all: a control character,
-- the space, the no-break space, or the soft hyphen
abbrev pub is_named : ℕ → Bool
is_named character = is_control character || (nat_eq character 0x20 || (nat_eq character 0xA0 || nat_eq character 0xAD))

-- the name of a character below U+0100: `U+` and four hexadecimal digits, of which those above 9 are capitals
unfoldable pub character_name : ℕ → List ℕ
character_name character = codes "U+00" ++ digit_glyph true (character / 16) ∷ digit_glyph true (character % 16) ∷ []

-- a character in a line of text: its name, or the character in UTF-8
unfoldable pub character_word : ℕ → List ℕ
character_word character = if is_named character then character_name character else encode_utf8 character

-- a character in CSV: a double quote and a comma are in double quotes, and a double quote is then doubled
unfoldable pub character_cell : ℕ → List ℕ
character_cell character =
    if nat_eq character 0x22 then codes "\"\"\"\""
    else if nat_eq character 0x2C then codes "\",\""
    else character_word character

-- a character as a JSON value: a string, or `null` for no character
unfoldable pub json_value : Option ℕ → List ℕ
json_value character = option_map_or (λ c. codes "\"" ++ json_string (encode_utf8 c) ++ codes "\"") character (codes "null")

-- ---- what an encoding adds to the line of a pair

-- the character of a code in a line of text: `none` if the code has no character
abbrev pub code_word : Encoding → ℕ → List ℕ
code_word encoding code = option_map_or character_word (character_of encoding code) (codes "none")

-- a symbol in a line of text: its character, or the name of a boundary
unfoldable pub symbol_field : Encoding → Symbol → List ℕ
symbol_field encoding Left = codes "left"
symbol_field encoding (Char code) = code_word encoding code
symbol_field encoding Right = codes "right"

-- the last field of a line of text, which only a ligature has
unfoldable pub value_field : Encoding → Action → List ℕ
value_field encoding (Kern amount) = []
value_field encoding (Lig code keep_left keep_right pass) = codes " " ++ code_word encoding code

-- text: two or three fields, each after a space
abbrev pub text_fields : Encoding → Pair → List ℕ
text_fields encoding pair =
    codes " " ++ symbol_field encoding pair.left ++ codes " " ++ symbol_field encoding pair.right ++ value_field encoding pair.action

-- a comma and a field of CSV, which is empty if there is no character
abbrev pub csv_field : Option ℕ → List ℕ
csv_field character = codes "," ++ option_map_or character_cell character []

-- CSV: three fields, each after a comma
abbrev pub csv_fields : Encoding → Pair → List ℕ
csv_fields encoding pair =
    csv_field (symbol_character encoding pair.left) ++ csv_field (symbol_character encoding pair.right)
    ++ csv_field (value_character encoding pair.action)

-- a comma and the member of a JSON object for the character of the field with this name
unfoldable pub json_member : List ℕ → Option ℕ → List ℕ
json_member field character = codes ",\"" ++ field ++ codes "_character\":" ++ json_value character

-- the last member, which only a ligature has
unfoldable pub value_member : Encoding → Action → List ℕ
value_member encoding (Kern amount) = []
value_member encoding (Lig code keep_left keep_right pass) = json_member (codes "value") (character_of encoding code)

-- JSON: two or three members, each after a comma
abbrev pub json_members : Encoding → Pair → List ℕ
json_members encoding pair =
    json_member (codes "left") (symbol_character encoding pair.left)
    ++ json_member (codes "right") (symbol_character encoding pair.right)
    ++ value_member encoding pair.action

-- in each format; without an encoding nothing is added
unfoldable pub characters_beside : Option Encoding → PairsFormat → Pair → List ℕ
characters_beside None format pair = []
characters_beside (Some encoding) Text pair = text_fields encoding pair
characters_beside (Some encoding) Csv pair = csv_fields encoding pair
characters_beside (Some encoding) Json pair = json_members encoding pair

-- ---- the text

-- the line of a pair: its four fields, and then its characters
unfoldable pub pair_line_with : LengthUnit → Option Encoding → PairsFormat → Pair → List ℕ
pair_line_with unit encoding format pair =
    pair_front unit format pair ++ characters_beside encoding format pair ++ line_end format

-- the line before the pairs, which only CSV has
unfoldable pub pairs_head_with : Option Encoding → PairsFormat → List ℕ
pairs_head_with None format = pairs_head format
pairs_head_with (Some encoding) Text = []
pairs_head_with (Some encoding) Csv = codes "left,right,action,value,left_character,right_character,value_character\n"
pairs_head_with (Some encoding) Json = []

-- the text of the pairs of a font, with kerns in a unit
unfoldable pub pairs_text_with : LengthUnit → Option Encoding → PairsFormat → FontValue → List ℕ
pairs_text_with unit encoding format font =
    pairs_head_with encoding format ++ flat_map (pair_line_with unit encoding format) (pairs_of font)

-- without an encoding the text has codes only
abbrev pub HasTextOfCodes : LengthUnit → PairsFormat → FontValue → Type 0
HasTextOfCodes unit format font = pairs_text_with unit None format font ≡ pairs_text_of unit format font
