-- Worked rows: lines of pairs with the characters of an encoding, and parts of listings in JSON, computed from the
-- definitions alone. The pairs in OT1 are those of cmr10.
use Rattle.std.proofs.Common.{◌≡◌, [], ◌∷◌, ◌++◌, negsuc, pos, false, true, Some, None, refl}
use Rattle.std.specs.Prelude.{codes}
use Rattle.std.specs.Char.{encode_utf8}
use Rattle.std.specs.Fmt.{digits}
use Rattle.lig_kern.specs.declared.action.Action.TheVariants.{Kern, Lig}
use Rattle.lig_kern.specs.declared.symbol.Symbol.{Symbol}
use Rattle.lig_kern.specs.declared.symbol.Symbol.TheVariants.{Left, Char, Right}
use Rattle.lig_kern.specs.declared.action.Action.{Action}
use Rattle.tex_sizes.specs.Lengths.{decimal_in, decimal_text, length_text, points_power}
use Rattle.tex_sizes.specs.declared.length_unit.LengthUnit.TheVariants.{ScaledPoints, Points}
use Rattle.encodings.specs.declared.encoding.Encoding.TheVariants.{Ot1, T1, Ly1, Latin1}
use Rattle.encodings.specs.Tables.{ot1_characters, t1_characters, ly1_characters}
use Rattle.encodings.specs.Codes.{characters_of}
use Rattle.encodings.specs.Characters.{character_of}
use Rattle.formats.specs.declared.listing.OutputFormat.TheVariants.{Json as FindingJson}
use Rattle.formats.specs.declared.pairs.PairsFormat.TheVariants.{Text, Csv, Json}
use Rattle.font_texts.specs.JsonText.{json_byte}
use Rattle.font_texts.specs.ListingWords.{hex_byte}
use Rattle.font_texts.specs.PairsText.{action_name, action_value, line_end, pair_front, symbol_in}
use Rattle.font_texts.specs.PairCharacters.{character_cell, character_name, character_word, characters_beside, json_member, json_value, pair_line_with, symbol_character, symbol_field, value_character, value_field, value_member}
use Rattle.font_texts.specs.Listing.{length_line}
use Rattle.font_texts.specs.ListingFormats.{hidden_name, length_in, length_quote, line_of, table_of_lines, word_in}
use Rattle.font_texts.specs.declared.pair.Pair.{Pair}

abbrev pair : Symbol → Symbol → Action → Pair
pair first second action = record { left = first; right = second; action = action }

-- lines of text with an encoding: V and A; two hyphens, which become an en dash; f and i, whose ligature
-- is no character of the encoding; both boundaries; a space and a soft hyphen
in_text :
    (pair_line_with ScaledPoints (Some Ot1) Text (pair (Char 86) (Char 65) (Kern (negsuc 72818))) ≡ codes "86 65 kern -72819 V A\n")
    × (pair_line_with ScaledPoints (Some Ot1) Text (pair (Char 45) (Char 45) (Lig 123 false false 0))
    ≡ codes "45 45 LIG 123 - - " ++ 0xE2 ∷ 0x80 ∷ 0x93 ∷ 10 ∷ [])
    × (pair_line_with ScaledPoints (Some Ot1) Text (pair (Char 102) (Char 105) (Lig 12 false false 0)) ≡ codes "102 105 LIG 12 f i none\n")
    × (pair_line_with ScaledPoints (Some T1) Text (pair Left Right (Kern (pos 0))) ≡ codes "left right kern 0 left right\n")
    × (pair_line_with ScaledPoints (Some Latin1) Text (pair (Char 32) (Char 173) (Kern (pos 1))) ≡ codes "32 173 kern 1 U+0020 U+00AD\n")
unfolding pair_line_with pair_front line_end characters_beside symbol_in word_in action_name action_value length_in length_quote length_text digits symbol_field value_field character_word character_name encode_utf8 character_of characters_of ot1_characters
in_text = (refl, refl, refl, refl, refl)

-- CSV: a comma and a double quote; the left boundary, and a code without a character
in_csv :
    (pair_line_with ScaledPoints (Some T1) Csv (pair (Char 44) (Char 34) (Kern (pos 1))) ≡ codes "44,34,kern,1,\",\",\"\"\"\",\n")
    × (pair_line_with ScaledPoints (Some Ly1) Csv (pair Left (Char 0) (Lig 65 true false 0)) ≡ codes "left,0,/LIG,65,,,A\n")
unfolding pair_line_with pair_front line_end characters_beside symbol_in word_in action_name action_value length_in length_quote length_text digits symbol_character value_character character_cell character_word encode_utf8 character_of characters_of t1_characters ly1_characters
in_csv = (refl, refl)

-- JSON: a double quote, a backslash and a control character; a boundary, and a kern
in_json :
    (pair_line_with ScaledPoints (Some Latin1) Json (pair (Char 34) (Char 92) (Lig 31 false false 0))
    ≡ codes "{\"left\":34,\"right\":92,\"action\":\"LIG\",\"value\":31,\"left_character\":\"\\\"\",\"right_character\":\"\\\\\",\"value_character\":\"\\u001f\"}\n")
    × (pair_line_with ScaledPoints (Some Ot1) Json (pair (Char 65) Right (Kern (pos 1)))
    ≡ codes "{\"left\":65,\"right\":\"right\",\"action\":\"kern\",\"value\":1,\"left_character\":\"A\",\"right_character\":null}\n")
unfolding pair_line_with pair_front line_end characters_beside symbol_in word_in action_name action_value length_in length_quote length_text digits symbol_character value_member json_member json_value json_byte hex_byte encode_utf8 character_of characters_of ot1_characters
in_json = (refl, refl)

-- without an encoding; and in points, where a kern is a string in JSON
of_codes :
    (pair_line_with ScaledPoints None Text (pair (Char 86) (Char 65) (Kern (negsuc 72818))) ≡ codes "86 65 kern -72819\n")
    × (pair_line_with Points None Json (pair (Char 86) (Char 65) (Kern (negsuc 72818)))
    ≡ codes "{\"left\":86,\"right\":65,\"action\":\"kern\",\"value\":\"-1.11113pt\"}\n")
unfolding pair_line_with pair_front line_end characters_beside symbol_in word_in action_name action_value length_in length_quote length_text decimal_in points_power decimal_text digits
of_codes = (refl, refl)

-- listings in JSON: a kern in points is a string; a table with two lines, and one with none
listed_in_json :
    (length_line (record { format = FindingJson; unit = Points }) (codes "kern") 7 (negsuc 40959) ≡ codes ",{\"kern\":7,\"value\":\"-0.625pt\"}")
    × (table_of_lines FindingJson (codes "kerns") (codes ",{},{}") ≡ codes ",\"kerns\":[{},{}]")
    × (table_of_lines FindingJson (codes "kerns") [] ≡ codes ",\"kerns\":[]")
unfolding line_of hidden_name length_in length_quote length_text decimal_in points_power decimal_text digits table_of_lines
listed_in_json = (refl, refl, refl)
