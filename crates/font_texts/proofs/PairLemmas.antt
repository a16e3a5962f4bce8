-- The text of pairs with an encoding, and the text without one.
use Rattle.std.proofs.Common.{◌≡◌, ℕ, ◌≤◌, true, false, List, [], ◌∷◌, ◌++◌, Option, Some, None, arith, refl, ap, ◌∙◌}
use Rattle.std.specs.Prelude.{flat_map}
use Rattle.std.specs.Char.{encode_utf8}
use Rattle.std.proofs.lemmas.Bool.Decides.{nat_tests}
use Rattle.std.proofs.lemmas.List.{append-nil}
use Rattle.encodings.specs.declared.encoding.Encoding.{Encoding}
use Rattle.tex_sizes.specs.declared.length_unit.LengthUnit.{LengthUnit}
use Rattle.tfm_tables.specs.Font.{FontValue}
use Rattle.formats.specs.declared.pairs.PairsFormat.{PairsFormat}
use Rattle.formats.specs.declared.pairs.PairsFormat.TheVariants.{Text, Json}
use Rattle.font_texts.specs.Pairs.{pairs_of}
use Rattle.font_texts.specs.PairsText.{line_end, pair_front, pair_line, pairs_head, pairs_text_of}
use Rattle.font_texts.specs.PairCharacters.{HasTextOfCodes, character_name, character_word, characters_beside, is_named, pair_line_with, pairs_head_with, pairs_text_with}
use Rattle.font_texts.specs.declared.pair.Pair.{Pair}

-- ---- the line before the pairs

pub head_of_text : (encoding : Option Encoding) → pairs_head_with encoding Text ≡ []
unfolding pairs_head_with pairs_head
head_of_text None = refl
head_of_text (Some encoding) = refl

pub head_of_json : (encoding : Option Encoding) → pairs_head_with encoding Json ≡ []
unfolding pairs_head_with pairs_head
head_of_json None = refl
head_of_json (Some encoding) = refl

pub ruleset heads = (head_of_text, head_of_json)

-- ---- a character as a field

pub named : (character : ℕ) → is_named character ≡ true → character_word character ≡ character_name character
unfolding character_word
named character is = rw is refl

pub unnamed : (character : ℕ) → is_named character ≡ false → character_word character ≡ encode_utf8 character
unfolding character_word
unnamed character is = rw is refl

-- only characters below U+0100 are replaced by their names
above : (character : ℕ) → 256 ≤ character → is_named character ≡ false
above character high = grind (arith, nat_tests)

pub unnamed_above : (character : ℕ) → 256 ≤ character → character_word character ≡ encode_utf8 character
unnamed_above character high = unnamed character (above character high)

pub ruleset words = (named, unnamed, unnamed_above)

-- ---- without an encoding

line_of_codes : (unit : LengthUnit) (format : PairsFormat) (pair : Pair) → pair_line_with unit None format pair ≡ pair_line unit format pair
unfolding pair_line_with characters_beside
line_of_codes unit format pair = ap (λ front. front ++ line_end format) (append-nil (pair_front unit format pair))

lines_of_codes : (unit : LengthUnit) (format : PairsFormat) (pairs : List Pair)
    → flat_map (pair_line_with unit None format) pairs ≡ flat_map (pair_line unit format) pairs
lines_of_codes unit format [] = refl
lines_of_codes unit format (pair ∷ pairs) =
    ap (λ line. line ++ flat_map (pair_line_with unit None format) pairs) (line_of_codes unit format pair)
    ∙ ap (λ lines. pair_line unit format pair ++ lines) (lines_of_codes unit format pairs)

-- Law: the text of pairs without an encoding has codes only
pub text_of_codes : (unit : LengthUnit) (format : PairsFormat) (font : FontValue) → HasTextOfCodes unit format font
unfolding pairs_text_with pairs_head_with pairs_text_of
text_of_codes unit format font = ap (λ lines. pairs_head format ++ lines) (lines_of_codes unit format (pairs_of font))
