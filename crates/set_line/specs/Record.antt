-- The record of a result: one line, with the number of the source, the line number and the result, in words
-- (formats 1 and 2) or as a JSON object.
-- Public sources: the name of a character, as U+20AC, is that of the Unicode Standard, appendix A; an object
-- follows RFC 8259, without any space. The words and the members are this project's own.
use Rattle.std.specs.Prelude.{ℕ, ◌-◌, ◌/◌, ◌%◌, true, nat_lt, ℤ, List, [], ◌∷◌, ◌++◌, drop, codes, decimal, flat_map, if◌then◌else◌}
use Rattle.std.specs.Fmt.{digit_glyph, signed_decimal}
use Rattle.run_plan.specs.declared.version.Version.{Version}
use Rattle.run_plan.specs.declared.version.Version.TheVariants.{One, Two, Json}
use Rattle.run_plan.specs.Versions.{label}
use Rattle.lig_kern.specs.declared.item.Item.{Item}
use Rattle.lig_kern.specs.declared.item.Item.TheVariants.{Char, Kern, Space, Skipped}
use Rattle.set_line.specs.declared.outcome.LineRefusal.TheVariants.{TooLong, Missing, Steps}
use Rattle.set_line.specs.declared.outcome.Outcome.{Outcome}
use Rattle.set_line.specs.declared.outcome.Outcome.TheVariants.{Set, Refused}
use Rattle.set_line.specs.declared.records.text_refusal.TextRefusal.{TextRefusal}
use Rattle.set_line.specs.declared.records.text_refusal.TextRefusal.TheVariants.{Line, NotUtf8, Uncoded}

-- ---- the number of a character

-- the hexadecimal digit of a number at a power of 16; the digits above 9 are capitals
abbrev pub digit_at : ℕ → ℕ → ℕ
digit_at number power = digit_glyph true (number / power % 16)

-- six hexadecimal digits, which are enough for each character
abbrev pub six_digits : ℕ → List ℕ
six_digits number =
    digit_at number 1048576 ∷ digit_at number 65536 ∷ digit_at number 4096 ∷ digit_at number 256 ∷ digit_at number 16 ∷ digit_at number 1 ∷ []

-- the number of zeros before the last four of six digits
abbrev pub zeros_in_front : ℕ → ℕ
zeros_in_front number = if nat_lt number 65536 then 2 else (if nat_lt number 1048576 then 1 else 0)

-- at least four hexadecimal digits, and no zeros before more digits
unfoldable pub digits_of : ℕ → List ℕ
digits_of number = drop (zeros_in_front number) (six_digits number)

-- the number of a character: hexadecimal, or decimal in JSON
abbrev pub character_text : Version → ℕ → List ℕ
character_text version character = label version (digits_of character) (decimal character)

-- ---- items

-- the letter for the kind of an item, with what is around it; in JSON an item is an array, with a comma before it
abbrev pub opening : Version → List ℕ → List ℕ
opening version letter = label version (codes " " ++ letter) (codes ",[\"" ++ letter ++ codes "\",")

-- the end of an item
abbrev pub closing : Version → List ℕ
closing version = label version [] (codes "]")

-- the text of an item: the letter for its kind, a code if it has one, and an amount if it has one. A skipped
-- number is a code, which is below 256, or 256 and the number of a character without codes
unfoldable pub text_in : Version → Item → List ℕ
text_in version (Char code width) =
    opening version (codes "c") ++ decimal code ++ label version (codes "=") (codes ",") ++ signed_decimal width ++ closing version
text_in version (Kern amount) = opening version (codes "k") ++ signed_decimal amount ++ closing version
text_in version (Space amount) = opening version (codes "s") ++ signed_decimal amount ++ closing version
text_in version (Skipped number) =
    if nat_lt number 256
    then opening version (codes "m") ++ decimal number ++ closing version
    else opening version (codes "u") ++ character_text version (number - 256) ++ closing version

-- ---- results

-- what a record states of a line: that it is set, with its width, its number of steps and the texts of its
-- items joined together; or why it is refused
pub data TextResult : Type 0 where
  set : ℤ → ℕ → List ℕ → TextResult
  refused : TextRefusal → TextResult

-- what a record states of a result
unfoldable pub text_result : Version → Outcome → TextResult
text_result version (Set items width steps) = set width steps (flat_map (text_in version) items)
text_result version (Refused refusal) = refused (Line refusal)

-- a line that is set; in JSON the array of the items has their texts without the first comma
unfoldable pub set_text : Version → ℤ → ℕ → List ℕ → List ℕ
set_text One width steps texts = codes " set " ++ signed_decimal width ++ texts
set_text Two width steps texts = codes " set " ++ signed_decimal width ++ codes " steps " ++ decimal steps ++ texts
set_text Json width steps texts =
    codes ",\"width\":" ++ signed_decimal width ++ codes ",\"steps\":" ++ decimal steps ++ codes ",\"items\":[" ++ drop 1 texts ++ codes "]"

-- a line that is refused: the reason, a word, and its numbers
unfoldable pub refusal_text : Version → TextRefusal → List ℕ
refusal_text version (Line (TooLong bytes)) =
    label version (codes " refused too-long ") (codes ",\"refused\":\"too-long\",\"bytes\":") ++ decimal bytes
refusal_text version (Line (Missing offset code)) =
    label version (codes " refused missing ") (codes ",\"refused\":\"missing\",\"offset\":") ++ decimal offset
    ++ label version (codes " ") (codes ",\"code\":") ++ decimal code
refusal_text version (Line (Steps limit)) =
    label version (codes " refused steps ") (codes ",\"refused\":\"steps\",\"limit\":") ++ decimal limit
refusal_text version (NotUtf8 offset) =
    label version (codes " refused encoding ") (codes ",\"refused\":\"encoding\",\"offset\":") ++ decimal offset
refusal_text version (Uncoded offset character) =
    label version (codes " refused uncoded ") (codes ",\"refused\":\"uncoded\",\"offset\":") ++ decimal offset
    ++ label version (codes " U+") (codes ",\"character\":") ++ character_text version character

-- a line that is set or refused
abbrev pub result_text : Version → TextResult → List ℕ
result_text version (set width steps texts) = set_text version width steps texts
result_text version (refused refusal) = refusal_text version refusal

-- ---- records

-- the numbers of the source and the line
unfoldable pub head_text : Version → ℕ → ℕ → List ℕ
head_text version source place =
    label version [] (codes "{\"source\":") ++ decimal source ++ label version (codes ":") (codes ",\"line\":") ++ decimal place

-- a record: the numbers, the result and a line feed; JSON closes the object before the line feed
unfoldable pub text_record : ℕ → ℕ → TextResult → Version → List ℕ
text_record source place result version =
    head_text version source place ++ result_text version result ++ label version (codes "\n") (codes "}\n")

-- the record of a result
unfoldable pub record_text : ℕ → ℕ → Outcome → Version → List ℕ
record_text source place outcome version = text_record source place (text_result version outcome) version
