-- The result of the check of a font with or without `--strict`, and the line or lines that report it.
-- Public source: JSON is RFC 8259; the rest is this project's own; which fonts are accepted, and the first error of any
-- other font, is defined in Acceptance of `tfm_tables`.
use Rattle.std.specs.Prelude.{◌≡◌, ℕ, ◌==◌, Bool, true, false, cond, List, [], ◌∷◌, ◌++◌, length, flat_map}
use Rattle.std.specs.Prelude.{codes, decimal, Option, Some, None}
use Rattle.std.specs.List.{find}
use Rattle.std.specs.Option.{is_none}
use Rattle.std.specs.Str.{is_utf8}
use Rattle.tfm_tables.specs.Acceptance.{font_fault_of}
use Rattle.tfm_tables.specs.FaultTexts.{font_fault_text}
use Rattle.formats.specs.declared.listing.OutputFormat.{OutputFormat}
use Rattle.formats.specs.declared.listing.OutputFormat.TheVariants.{Text, Json}
use Rattle.font_texts.specs.FaultWords.{fault_number, fault_words}
use Rattle.font_texts.specs.JsonText.{json_string}
use Rattle.font_texts.specs.ListingWords.{escaped_text, hex_text}
use Rattle.check_texts.specs.declared.verdict.Verdict.{Verdict}
use Rattle.check_texts.specs.declared.verdict.Verdict.TheVariants.{Accepted, Refused, NotRead}
use Rattle.check_texts.specs.declared.warning.Warning.{Warning}
use Rattle.check_texts.specs.Texts.{is_refusal, warning_text}
use Rattle.check_texts.specs.Warnings.{endless_warnings, warnings_of}

-- ---- the verdict

-- possible warnings of a file with an accepted font; without `--strict` there are none
abbrev pub AreWarningsOf : Bool → List ℕ → List Warning → Type 0
AreWarningsOf false bytes warnings = warnings ≡ []
AreWarningsOf true bytes warnings =
    (pair : Option (Option ℕ × ℕ)) × (warnings ≡ warnings_of bytes ++ endless_warnings pair)

-- a possible result of the check of a file with these bytes
abbrev pub IsVerdictOf : Bool → List ℕ → Verdict → Type 0
IsVerdictOf strict bytes (Accepted warnings) =
    (font_fault_of bytes ≡ None) × AreWarningsOf strict bytes warnings.items
IsVerdictOf strict bytes (Refused fault) = font_fault_of bytes ≡ Some fault
IsVerdictOf strict bytes NotRead = ⊥

-- the font is accepted, and TeX doesn't refuse it
abbrev pub is_accepted : Verdict → Bool
is_accepted (Accepted warnings) = is_none (find is_refusal warnings.items)
is_accepted _ = false

-- the font is accepted and has no warnings
abbrev pub is_plain : Verdict → Bool
is_plain (Accepted warnings) = length warnings.items == 0
is_plain _ = false

-- the font wasn't read
abbrev pub is_unread : Verdict → Bool
is_unread NotRead = true
is_unread _ = false

-- ---- its text

-- a warning after the finding of its font: on a line of its own, or as a further JSON string
abbrev pub warning_in : OutputFormat → Warning → List ℕ
warning_in Text warning = codes "\n  " ++ warning_text warning
warning_in Json warning = codes ",\"" ++ (warning_text warning ++ codes "\"")

-- the noun for this number of warnings
abbrev pub warnings_noun : ℕ → List ℕ
warnings_noun count = cond (count == 1) (codes " warning") (codes " warnings")

-- the finding for an accepted font with this number of warnings, for none of which TeX refuses it
abbrev pub count_words : ℕ → List ℕ
count_words count =
    cond (count == 0) (codes "accepted") (codes "accepted, " ++ (decimal count ++ warnings_noun count))

-- the finding for an accepted font with this first reason for which TeX refuses it, if it has one, and these warnings
abbrev pub reason_words : Option Warning → List Warning → List ℕ
reason_words (Some reason) warnings = codes "refused by TeX: " ++ warning_text reason
reason_words None warnings = count_words (length warnings) ++ flat_map (warning_in Text) warnings

-- the finding for an accepted font with these warnings: the first reason for which TeX refuses it, or, if it has none,
-- their number and all of them
abbrev pub warnings_text : List Warning → List ℕ
warnings_text warnings = reason_words (find is_refusal warnings) warnings

-- the finding of a verdict
abbrev pub finding : Verdict → List ℕ
finding (Accepted warnings) = warnings_text warnings.items
finding (Refused fault) = codes "refused: " ++ fault_words fault
finding NotRead = codes "not read"

-- the JSON value for the first reason for which TeX refuses a font, if it has one
abbrev pub json_verdict : Option Warning → List ℕ
json_verdict (Some _) = codes "\"refused by TeX\""
json_verdict None = codes "\"accepted\""

-- the JSON member with these warnings, if there are any
abbrev pub json_warnings : List Warning → List ℕ
json_warnings [] = []
json_warnings (first ∷ rest) =
    codes ",\"warnings\":[\"" ++ (warning_text first ++ codes "\"") ++ flat_map (warning_in Json) rest ++ codes "]"

-- the JSON value of the finding for an accepted font with these warnings, and the member with all of them
abbrev pub json_accepted : List Warning → List ℕ
json_accepted warnings = json_verdict (find is_refusal warnings) ++ json_warnings warnings

-- the JSON value of the finding of a verdict, and the members after it: the number and the text of an error
abbrev pub json_finding : Verdict → List ℕ
json_finding (Accepted warnings) = json_accepted warnings.items
json_finding (Refused fault) =
    codes "\"refused\",\"error\":"
    ++ (decimal (fault_number fault) ++ (codes ",\"words\":\"" ++ (font_fault_text fault ++ codes "\"")))
json_finding NotRead = codes "\"not read\""

-- the name of a font, and the verdict on it
abbrev pub Row : Type 0
Row = List ℕ × Verdict

-- the lines of a font: its name, escaped as the texts of a listing are, and the finding
unfoldable pub text_line : Row → List ℕ
text_line row = escaped_text row.0 ++ codes ": " ++ finding row.1 ++ codes "\n"

-- the member with the name of a font, as far as the end of its string: `font` with the text, or, if the name isn't UTF-8,
-- `font_hex` with the bytes in hexadecimal
unfoldable pub json_name : List ℕ → List ℕ
json_name name =
    cond (is_utf8 name) (codes "\"font\":\"" ++ json_string name) (codes "\"font_hex\":\"" ++ hex_text name)

-- the JSON object of a font: its name, and the finding
unfoldable pub json_line : Row → List ℕ
json_line row = codes "{" ++ json_name row.0 ++ codes "\",\"finding\":" ++ json_finding row.1 ++ codes "}\n"

-- the text of a font in a format
abbrev pub verdict_text : OutputFormat → Row → List ℕ
verdict_text Text row = text_line row
verdict_text Json row = json_line row
