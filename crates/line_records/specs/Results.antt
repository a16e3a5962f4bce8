-- The result of a line, of bytes or in UTF-8: the first that applies of too long, not UTF-8, a character without
-- codes, a missing character, set and too many steps.
-- This project's own; how a list of codes is set is defined in Answer of `set_line`, a character without codes is set
-- as a missing code is: it is skipped, and the codes on each side of a break are set as those of two lines are.
use Rattle.std.specs.Prelude.{◌≡◌, ℕ, ◌+◌, Bool, true, false, nat_lt, List, [], ◌∷◌, ◌++◌, length, flat_map, Option, Some, None, Result, Ok, Err, if◌then◌else◌}
use Rattle.std.specs.List.{count_by, find}
use Rattle.std.specs.Option.{is_none, option_map, option_map_or, option_or}
use Rattle.run_plan.specs.declared.policy.Policy.{Policy}
use Rattle.run_plan.specs.declared.policy.Policy.TheVariants.{Refuse, Skip}
use Rattle.run_plan.specs.declared.version.Version.{Version}
use Rattle.run_plan.specs.declared.version.Version.TheVariants.{One}
use Rattle.tfm_tables.specs.Font.{FontValue}
use Rattle.lig_kern.specs.declared.item.Item.{Item}
use Rattle.lig_kern.specs.Result.{Setting}
use Rattle.set_line.specs.declared.outcome.LineRefusal.TheVariants.{TooLong, Missing, Steps}
use Rattle.set_line.specs.declared.records.text_refusal.TextRefusal.{TextRefusal}
use Rattle.set_line.specs.declared.records.text_refusal.TextRefusal.TheVariants.{Line, NotUtf8, Uncoded}
use Rattle.set_line.specs.declared.outcome.Outcome.{Outcome}
use Rattle.set_line.specs.declared.outcome.Outcome.TheVariants.{Set, Refused}
use Rattle.set_line.specs.Answer.{refusal_of, setting_of_portions}
use Rattle.set_line.specs.Pieces.{Portion, is_neither, portions_in, skipped}
use Rattle.set_line.specs.Record.{TextResult, text_in, text_record}
use Rattle.set_line.specs.Record.TextResult.{refused, set}
use Rattle.set_line.specs.Terms.{TermsValue}
use Rattle.set_line.specs.Width.{total_width}
use Rattle.encodings.specs.declared.encoding.Encoding.{Encoding}
use Rattle.encodings.specs.declared.places.Place.{Place}
use Rattle.encodings.specs.Lines.{Element, elements_at, elements_of, encoded, fault_in, first_uncoded, places_of}
use Rattle.encodings.specs.Parts.{PartValue, parts_of, uncoded_after}
use Rattle.formats.specs.declared.record_format.RecordFormat.{RecordFormat}
use Rattle.formats.specs.declared.record_format.RecordFormat.TheVariants.{Items, Box}
use Rattle.line_records.specs.Boxes.{box_of, box_record, box_text, is_skipped}
use Rattle.line_records.specs.declared.result.Sums.{Sums}
use Rattle.line_records.specs.declared.result.LineResult.{LineResult}
use Rattle.line_records.specs.declared.result.LineResult.TheVariants.{Set as SetResult, Refused as RefusedResult}

-- ---- the refusals that come first

-- the refusal of a line of more than 65,535 bytes
abbrev pub too_long : List ℕ → Option TextRefusal
too_long line = if nat_lt 65535 (length line) then Some (Line (TooLong (length line))) else None

-- the refusal for the first character without codes, if missing characters are refused
abbrev pub uncoded_in : Policy → Encoding → List Place → Option TextRefusal
uncoded_in Refuse encoding places = option_map (λ place. Uncoded place.offset place.character) (first_uncoded encoding places)
uncoded_in Skip encoding places = None

-- the first of these characters' codes that is neither a space nor a character of the font
abbrev pub missing_at : FontValue → Encoding → List Place → Option Element
missing_at font encoding places = find (λ element. is_neither font element.number) (flat_map (elements_at encoding) places)

-- the refusal for the first code that is neither a space nor a character of the font, if missing characters are
-- refused: its offset is that of the character it comes from
abbrev pub missing_code_in : Policy → FontValue → List Element → Option TextRefusal
missing_code_in Refuse font elements =
    option_map (λ element. Line (Missing element.offset element.number)) (find (λ element. is_neither font element.number) elements)
missing_code_in Skip font elements = None

-- the refusal of a line in UTF-8 that is known before it is set
unfoldable pub utf8_refusal : TermsValue → Encoding → Bool → List ℕ → Option TextRefusal
utf8_refusal terms encoding first line =
    option_or (too_long line)
    (option_or (option_map NotUtf8 (fault_in line))
    (option_or (uncoded_in terms.policy encoding (places_of first line)) (missing_code_in terms.policy terms.font (elements_of encoding first line))))

-- the refusal of a line that is known before it is set; without an encoding it is that of a line of bytes
unfoldable pub refusal_in : TermsValue → Option Encoding → Bool → List ℕ → Option TextRefusal
refusal_in terms None first line = option_map Line (refusal_of terms line)
refusal_in terms (Some encoding) first line = utf8_refusal terms encoding first line

-- ---- the result

-- codes as the only part of a line
abbrev pub only_part : List ℕ → List PartValue
only_part codes = record { codes = codes; gap = None } ∷ []

-- the parts of a line: its bytes, or with an encoding the parts of the encoded line
abbrev pub parts_in : Option Encoding → Bool → List ℕ → List PartValue
parts_in None first line = only_part line
parts_in (Some encoding) first line = parts_of (encoded encoding first line)

-- the portions of codes, and of the character without codes after them, if there is one: the right boundary doesn't
-- precede it, and it is skipped as the number 256 and its own
abbrev pub portions_before : FontValue → List ℕ → Option ℕ → List Portion
portions_before font codes uncoded =
    portions_in (is_none uncoded) font codes ++ option_map_or (λ character. skipped (256 + character) ∷ []) uncoded []

-- the portions of the parts of a line, in order
abbrev pub line_portions : FontValue → List PartValue → List Portion
line_portions font parts = flat_map (λ part. portions_before font part.codes (uncoded_after part)) parts

-- the setting of parts, or the refusal because they take too many steps
abbrev pub set_within : TermsValue → List PartValue → Result Setting TextRefusal
set_within terms parts =
    option_map_or Ok (setting_of_portions terms.font terms.limit (line_portions terms.font parts)) (Err (Line (Steps terms.limit)))

-- the result of a line: its setting or its refusal
unfoldable pub line_result : TermsValue → Option Encoding → Bool → List ℕ → Result Setting TextRefusal
line_result terms encoding first line =
    option_map_or Err (refusal_in terms encoding first line) (set_within terms (parts_in encoding first line))

-- whether a line was refused
abbrev pub is_refused : Result Setting TextRefusal → Bool
is_refused (Ok setting) = false
is_refused (Err refusal) = true

-- whether the outcome of a line of bytes is a refusal
abbrev pub is_refusal : Outcome → Bool
is_refusal (Set items width steps) = false
is_refusal (Refused refusal) = true

-- a line was set, with this width, this number of steps, this number of items, and this number of skipped ones
pub record HasSums (setting : Setting) (sums : Sums) : Type 0 where
  pub width : sums.width ≡ total_width setting.items
  pub steps : sums.steps ≡ setting.steps
  pub items : sums.items ≡ length setting.items
  pub skipped : sums.skipped ≡ count_by is_skipped setting.items

-- a result without items is that of a line
abbrev pub IsResult : Result Setting TextRefusal → LineResult → Type 0
IsResult result (SetResult sums) = (setting : Setting) × (result ≡ Ok setting) × HasSums setting sums
IsResult result (RefusedResult refusal) = result ≡ Err refusal

-- a result without items is that of a line of bytes with this outcome
abbrev pub IsOf : Outcome → LineResult → Type 0
IsOf outcome (SetResult sums) =
    (items : List Item) × (outcome ≡ Set items sums.width sums.steps) × (sums.items ≡ length items) × (sums.skipped ≡ count_by is_skipped items)
IsOf outcome (RefusedResult (Line refusal)) = outcome ≡ Refused refusal
IsOf outcome (RefusedResult (NotUtf8 offset)) = ⊥
IsOf outcome (RefusedResult (Uncoded offset character)) = ⊥

-- ---- its record

-- what a record in this format of items says of a result
abbrev pub result_text : Version → Result Setting TextRefusal → TextResult
result_text version (Ok setting) = set (total_width setting.items) setting.steps (flat_map (text_in version) setting.items)
result_text version (Err refusal) = refused refusal

-- the record of a result, with the number of the source and the line number: with the items of a line that is set,
-- or with their box
abbrev pub result_record : RecordFormat → FontValue → ℕ → ℕ → Result Setting TextRefusal → List ℕ
result_record (Items version) font source place result = text_record source place (result_text version result) version
result_record (Box unit) font source place (Ok setting) = box_record source place (box_text unit (box_of font setting.items))
result_record (Box unit) font source place (Err refusal) = text_record source place (refused refusal) One

-- the record of a line
abbrev pub line_record : TermsValue → Option Encoding → Bool → List ℕ → ℕ → ℕ → RecordFormat → List ℕ
line_record terms encoding first line source place format =
    result_record format terms.font source place (line_result terms encoding first line)
