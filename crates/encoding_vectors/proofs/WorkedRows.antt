-- Worked rows, computed from the definitions alone. The tokens and the lines are those of PostScript's
-- scanner, and the characters those of the Adobe Glyph List.
use Rattle.std.proofs.Common.{◌≡◌, [], ◌∷◌, ◌++◌, Some, None, refl, codes}
use Rattle.encoding_vectors.specs.Bytes.{is_white, is_special, is_regular}
use Rattle.encoding_vectors.specs.Glyphs.{listed_digits, rows_of}
use Rattle.encoding_vectors.specs.Names.{character_of, numbered_character, written_character}
use Rattle.encoding_vectors.specs.Tokens.{tokens_of}
use Rattle.encoding_vectors.specs.Vectors.{fault_line, line_after, vector_form}

-- ---- tokens

-- /E[/A.b% /B ]
-- ]def
vector : tokens_of (codes "/E[/A.b% /B ]" ++ 10 ∷ codes "]def")
    ≡ record { offset = 0; bytes = codes "/E" }
    ∷ record { offset = 2; bytes = codes "[" }
    ∷ record { offset = 3; bytes = codes "/A.b" }
    ∷ record { offset = 14; bytes = codes "]" }
    ∷ record { offset = 15; bytes = codes "def" }
    ∷ []
unfolding tokens_of is_regular is_white is_special
vector = refl

-- two slashes, and a name in parentheses
slashes : tokens_of (codes "//A (b)")
    ≡ record { offset = 0; bytes = codes "/" }
    ∷ record { offset = 1; bytes = codes "/A" }
    ∷ record { offset = 4; bytes = codes "(" }
    ∷ record { offset = 5; bytes = codes "b" }
    ∷ record { offset = 6; bytes = codes ")" }
    ∷ []
unfolding tokens_of is_regular is_white is_special
slashes = refl

-- a comment up to a CR, and one up to the end
comments : tokens_of (codes "%a%b" ++ 13 ∷ codes "c%d" ++ 10 ∷ 12 ∷ codes "e %f") ≡ record { offset = 5; bytes = codes "c" } ∷ record { offset = 10; bytes = codes "e" } ∷ []
unfolding tokens_of is_regular is_white is_special
comments = refl

-- ---- lines

-- a CR LF is one end, a LF CR are two
return_and_feed : line_after (97 ∷ 13 ∷ 10 ∷ 98 ∷ []) 3 ≡ 2
unfolding line_after
return_and_feed = refl

feed_and_return : line_after (97 ∷ 10 ∷ 13 ∷ 98 ∷ []) 3 ≡ 3
unfolding line_after
feed_and_return = refl

two_returns : line_after (13 ∷ 13 ∷ 10 ∷ []) 3 ≡ 3
unfolding line_after
two_returns = refl

-- ---- texts that are no vectors

empty : fault_line [] ≡ Some 1
unfolding fault_line vector_form line_after tokens_of
empty = refl

no_bracket : fault_line (codes "% E" ++ 13 ∷ 10 ∷ codes "/E" ++ 10 ∷ codes " {/A") ≡ Some 3
unfolding fault_line vector_form line_after tokens_of is_regular is_white is_special
no_bracket = refl

number : fault_line (codes "/E [ /A /B" ++ 10 ∷ codes "12 ] def") ≡ Some 2
unfolding fault_line vector_form line_after tokens_of is_regular is_white is_special
number = refl

too_short : fault_line (codes "/E [ /A" ++ 10 ∷ codes "/B" ++ 10 ∷ []) ≡ Some 3
unfolding fault_line vector_form line_after tokens_of is_regular is_white is_special
too_short = refl

-- ---- names

accented : character_of (codes "adieresis") ≡ Some 0xE4
unfolding character_of numbered_character written_character listed_digits rows_of
accented = refl

ogonek : character_of (codes "uogonek") ≡ Some 0x173
unfolding character_of numbered_character written_character listed_digits rows_of
ogonek = refl

longest : character_of (codes "whitediamondcontainingblacksmalldiamond") ≡ Some 0x25C8
unfolding character_of numbered_character written_character listed_digits rows_of
longest = refl

several_characters : character_of (codes "dalethatafpatah") ≡ None
unfolding character_of numbered_character written_character listed_digits rows_of
several_characters = refl

ligature : character_of (codes "ffl") ≡ Some 0xFB04
unfolding character_of numbered_character written_character listed_digits rows_of
ligature = refl

no_glyph : character_of (codes ".notdef") ≡ None
unfolding character_of numbered_character written_character listed_digits rows_of
no_glyph = refl

with_a_period : character_of (codes "A.sc") ≡ None
unfolding character_of numbered_character written_character listed_digits rows_of
with_a_period = refl

four_digits : character_of (codes "uni20AC") ≡ Some 0x20AC
unfolding character_of numbered_character written_character
four_digits = refl

lower_case : character_of (codes "uni20ac") ≡ None
unfolding character_of numbered_character written_character listed_digits rows_of
lower_case = refl

surrogate : character_of (codes "uniD800") ≡ None
unfolding character_of numbered_character written_character listed_digits rows_of
surrogate = refl

five_digits : character_of (codes "u1F600") ≡ Some 0x1F600
unfolding character_of numbered_character written_character
five_digits = refl

leading_zero : character_of (codes "u01F60") ≡ Some 0x1F60
unfolding character_of numbered_character written_character
leading_zero = refl

largest : character_of (codes "u10FFFF") ≡ Some 0x10FFFF
unfolding character_of numbered_character written_character
largest = refl

too_large : character_of (codes "u110000") ≡ None
unfolding character_of numbered_character written_character listed_digits rows_of
too_large = refl
