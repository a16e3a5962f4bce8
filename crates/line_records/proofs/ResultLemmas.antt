-- The result of a line, from the setting of its numbers.
use Rattle.std.proofs.Common.{◌≡◌, ℕ, ◌+◌, ◌-◌, ◌<◌, ◌≤◌, ◌||◌, arith, lt-ltb, Bool, true, false, List, [], ◌∷◌, ◌++◌, length, map, flat_map, take, Option, Some, None, refl, ap, sym, subst, ◌∙◌}
use Rattle.std.specs.Prelude.{Result, Ok, Err, OnErr, cond, filter, nat_eq, not, ◌&&◌, if◌then◌else◌}
use Rattle.std.specs.List.{find, list_all, list_any}
use Rattle.std.specs.Global.{Vec}
use Rattle.std.specs.Option.{is_none, option_map, option_map_or, option_or}
use Rattle.std.proofs.Math.Bool.{or-false}
use Rattle.std.proofs.lemmas.Bool.{and_parts, eqb-true, le-ltb}
use Rattle.std.proofs.lemmas.Option.{none-some}
use Rattle.std.proofs.lemmas.List.Folds.{list_any-append}
use Rattle.run_plan.specs.declared.policy.Policy.{Policy}
use Rattle.run_plan.specs.declared.policy.Policy.TheVariants.{Refuse, Skip}
use Rattle.run_plan.specs.declared.version.Version.{Version}
use Rattle.tfm_words.specs.Appending.{HasNoRoomFor}
use Rattle.tex_sizes.specs.declared.length_unit.LengthUnit.{LengthUnit}
use Rattle.tfm_tables.specs.Font.{FontValue}
use Rattle.lig_kern.specs.Result.{Setting}
use Rattle.set_line.specs.declared.outcome.LineRefusal.{LineRefusal}
use Rattle.set_line.specs.declared.outcome.LineRefusal.TheVariants.{Missing, Steps, TooLong}
use Rattle.set_line.specs.declared.records.text_refusal.TextRefusal.{TextRefusal}
use Rattle.set_line.specs.declared.records.text_refusal.TextRefusal.TheVariants.{Line, Uncoded}
use Rattle.set_line.specs.Answer.{has_refused, is_refused, outcome_of, refusal_of, set_as, set_or_refused, setting_of_portions}
use Rattle.set_line.specs.Onward.{onward, setting}
use Rattle.set_line.specs.Pieces.{is_neither, portions_of}
use Rattle.set_line.specs.declared.outcome.Outcome.{Outcome}
use Rattle.set_line.specs.declared.outcome.Outcome.TheVariants.{Refused}
use Rattle.set_line.specs.Record.{text_record, text_result}
use Rattle.set_line.specs.Record.TextResult.{refused, set}
use Rattle.set_line.specs.Terms.{TermsValue}
use Rattle.set_line.proofs.AnswerLemmas.{none_met, none_there}
use Rattle.set_line.proofs.OnwardLemmas.{setting_is}
use Rattle.encodings.specs.declared.encoding.Encoding.{Encoding}
use Rattle.encodings.specs.declared.places.Place.{Place}
use Rattle.encodings.specs.Codes.{codes_of, is_apart}
use Rattle.encodings.specs.Lines.{Element, break_number, elements_at, encoded, fault_in, first_uncoded, has_gaps, is_code, numbers_of, places_of, set_apart}
use Rattle.encodings.specs.Parts.{PartValue, parts_of, uncoded_after, unless_break, with_code}
use Rattle.encodings.proofs.LawLemmas.{codes_are_bytes, soft_coded}
use Rattle.encodings.proofs.PartLemmas.{last_part, parts_joined}
use Rattle.formats.specs.Records.{version_of}
use Rattle.formats.specs.declared.record_format.RecordFormat.{RecordFormat}
use Rattle.formats.specs.declared.record_format.RecordFormat.TheVariants.{Items, Box}
use Rattle.line_records.specs.Boxes.{box_of, box_record, box_text, depth_of, height_of, largest}
use Rattle.line_records.specs.Kept.{IsKept, IsKeptResult, IsTried, as_box, refused_in, refuses, set_after}
use Rattle.line_records.specs.Results.{only_part, is_refusal, is_refused as is_result_refused, line_portions, line_result, missing_at, missing_code_in, parts_in, refusal_in, result_record, result_text, set_within, uncoded_in, utf8_refusal}
use Rattle.line_records.specs.declared.keeping.KeptLine.{KeptLine}
use Rattle.line_records.specs.declared.measuring.Extent.{Extent}
use Rattle.line_records.proofs.KeptLemmas.{alone_portions, codes_refused}
use Rattle.line_records.proofs.RefusalLemmas.{element, long, missing_here, not_utf8, refusal_left}

-- ---- the numbers of a line in UTF-8 that are refused

-- whether a number is refused
refused_number : Policy → FontValue → ℕ → Bool
refused_number policy font number =
    if is_code number then is_refused policy font number else (refuses policy && not (is_none (unless_break (number - 256))))

-- a code in front of parts
in_front : (policy : Policy) (font : FontValue) (code : ℕ) (parts : List PartValue)
    → list_any (refused_in policy font) (with_code code parts) ≡ is_refused policy font code || list_any (refused_in policy font) parts
in_front Refuse font code [] = or-false _ ∙ or-false _
in_front Skip font code [] = or-false _ ∙ or-false _
in_front policy font code (part ∷ parts) = by (is_refused policy font code)
  where
    by : (b : Bool) → ((b || has_refused policy font part.codes) || (refuses policy && not (is_none (uncoded_after part)))) || list_any (refused_in policy font) parts
        ≡ b || (refused_in policy font part || list_any (refused_in policy font) parts)
    by true = refl
    by false = refl

-- a line has a refused part if it has a refused number
parts_refused : (policy : Policy) (font : FontValue) (numbers : List ℕ) → list_any (refused_in policy font) (parts_of numbers) ≡ list_any (refused_number policy font) numbers
unfolding refused_number
parts_refused Refuse font [] = refl
parts_refused Skip font [] = refl
parts_refused policy font (number ∷ numbers) = by (is_code number) (parts_refused policy font numbers)
  where
    by : (b : Bool) → list_any (refused_in policy font) (parts_of numbers) ≡ list_any (refused_number policy font) numbers
        → list_any (refused_in policy font) (cond b (with_code number (parts_of numbers)) (record { codes = []; gap = Some (number - 256) } ∷ parts_of numbers))
        ≡ (if b then is_refused policy font number else (refuses policy && not (is_none (unless_break (number - 256))))) || list_any (refused_number policy font) numbers
    by true rest = in_front policy font number (parts_of numbers) ∙ ap (λ b. is_refused policy font number || b) rest
    by false rest = ap (λ b. (refuses policy && not (is_none (unless_break (number - 256)))) || b) rest

-- none is refused if missing characters are skipped
none_skipped_number : (font : FontValue) (numbers : List ℕ) → list_any (refused_number Skip font) numbers ≡ false
unfolding refused_number
none_skipped_number font [] = refl
none_skipped_number font (number ∷ numbers) = by (is_code number) (none_skipped_number font numbers)
  where
    by : (b : Bool) → list_any (refused_number Skip font) numbers ≡ false
        → (if b then false else (false && not (is_none (unless_break (number - 256))))) || list_any (refused_number Skip font) numbers ≡ false
    by true rest = rest
    by false rest = rest

-- codes, between breaks or not
refused_codes : (font : FontValue) (codes : List ℕ) → list_all is_code codes ≡ true → list_any (refused_number Refuse font) codes ≡ not (is_none (find (is_neither font) codes))
unfolding refused_number
refused_codes font [] all = refl
refused_codes font (code ∷ codes) all =
    let both = and_parts (is_code code) (list_all is_code codes) all in
    rw both.0 (by (is_neither font code) (refused_codes font codes both.1))
  where
    by : (b : Bool) → list_any (refused_number Refuse font) codes ≡ not (is_none (find (is_neither font) codes))
        → b || list_any (refused_number Refuse font) codes ≡ not (is_none (cond b (Some code) (find (is_neither font) codes)))
    by true rest = refl
    by false rest = rest

refused_apart : (font : FontValue) (character : ℕ) (codes : List ℕ) → list_any (refused_number Refuse font) (set_apart character codes) ≡ list_any (refused_number Refuse font) codes
unfolding refused_number
refused_apart font character codes = by (is_apart character)
  where
    by : (b : Bool) → list_any (refused_number Refuse font) (cond b (break_number ∷ codes ++ break_number ∷ []) codes) ≡ list_any (refused_number Refuse font) codes
    by true = list_any-append (refused_number Refuse font) codes (break_number ∷ []) ∙ or-false (list_any (refused_number Refuse font) codes)
    by false = refl

-- a character without codes isn't the soft hyphen
no_break : (encoding : Encoding) (character : ℕ) → codes_of encoding character ≡ None → unless_break (256 + character - 256) ≡ Some character
no_break encoding character none = by (nat_eq (256 + character) break_number) refl
  where
    same : 256 + character - 256 ≡ character
    same = omega arith

    by : (b : Bool) → nat_eq (256 + character) break_number ≡ b → unless_break (256 + character - 256) ≡ Some character
    by true is =
        let soft : character ≡ 0xAD = omega (arith, eqb-true _ _ is) in
        absurd (none-some [] (sym none ∙ ap (codes_of encoding) soft ∙ soft_coded encoding))
    by false is = ap unless_break same ∙ rw is refl

refused_uncoded : (font : FontValue) (encoding : Encoding) (character : ℕ) → codes_of encoding character ≡ None → refused_number Refuse font (256 + character) ≡ true
unfolding refused_number
refused_uncoded font encoding character none =
    let above : is_code (256 + character) ≡ false = le-ltb (256 + character) 256 (omega arith) in
    rw above (ap (λ o. not (is_none o)) (no_break encoding character none))

either_some : {A B : Type 0} (f : A → B) (o : Option A) (more : Option B) → not (is_none (option_or (option_map f o) more)) ≡ not (is_none o) || not (is_none more)
either_some f None more = refl
either_some f (Some a) more = refl

mapped_some : {A B : Type 0} (f : A → B) (o : Option A) → not (is_none (option_map f o)) ≡ not (is_none o)
mapped_some f None = refl
mapped_some f (Some a) = refl

-- a number is refused if a character has no codes, or if a code is missing
refused_either : (font : FontValue) (encoding : Encoding) (places : List Place)
    → list_any (refused_number Refuse font) (flat_map (numbers_of encoding) (map (λ place. place.character) places))
    ≡ not (is_none (first_uncoded encoding places)) || not (is_none (missing_at font encoding places))
unfolding numbers_of
refused_either font encoding [] = refl
refused_either font encoding (place ∷ places) =
    list_any-append (refused_number Refuse font) (numbers_of encoding place.character) (flat_map (numbers_of encoding) (map (λ each. each.character) places))
    ∙ by (codes_of encoding place.character) refl (refused_either font encoding places)
  where
    swapped : (a b c : Bool) → a || (b || c) ≡ b || (a || c)
    swapped true true c = refl
    swapped true false c = refl
    swapped false b c = refl

    by : (o : Option (List ℕ)) → codes_of encoding place.character ≡ o
        → list_any (refused_number Refuse font) (flat_map (numbers_of encoding) (map (λ each. each.character) places)) ≡ not (is_none (first_uncoded encoding places)) || not (is_none (missing_at font encoding places))
        → list_any (refused_number Refuse font) (option_map_or (set_apart place.character) o ((256 + place.character) ∷ []))
        || list_any (refused_number Refuse font) (flat_map (numbers_of encoding) (map (λ each. each.character) places))
        ≡ not (is_none (cond (is_none (codes_of encoding place.character)) (Some place) (first_uncoded encoding places))) || not (is_none (missing_at font encoding (place ∷ places)))
    by None is later =
        ap (λ b. (b || false) || list_any (refused_number Refuse font) (flat_map (numbers_of encoding) (map (λ each. each.character) places))) (refused_uncoded font encoding place.character is)
        ∙ ap (λ (o : Option (List ℕ)). not (is_none (cond (is_none o) (Some place) (first_uncoded encoding places))) || not (is_none (missing_at font encoding (place ∷ places)))) (sym is)
    by (Some codes) is later =
        let found : Bool = not (is_none (find (is_neither font) codes)) in
        let uncoded : Bool = not (is_none (first_uncoded encoding places)) in
        let missing : Bool = not (is_none (missing_at font encoding places)) in
        let here : list_any (refused_number Refuse font) (set_apart place.character codes) ≡ found =
        refused_apart font place.character codes ∙ refused_codes font codes (codes_are_bytes encoding place.character codes is) in
        let last : found || missing ≡ not (is_none (missing_at font encoding (place ∷ places))) =
        sym (either_some (element place) (find (is_neither font) codes) (missing_at font encoding places)) ∙ ap (λ o. not (is_none o)) (sym (missing_here font encoding place places codes is)) in
        ap (λ b. b || list_any (refused_number Refuse font) (flat_map (numbers_of encoding) (map (λ each. each.character) places))) here
        ∙ ap (λ b. found || b) later
        ∙ swapped found uncoded missing
        ∙ ap (λ b. uncoded || b) last
        ∙ ap (λ (o : Option (List ℕ)). not (is_none (cond (is_none o) (Some place) (first_uncoded encoding places))) || not (is_none (missing_at font encoding (place ∷ places)))) (sym is)

-- a line in UTF-8 has a refused number if it is refused before it is set
refused_when : (policy : Policy) (font : FontValue) (encoding : Encoding) (places : List Place)
    → list_any (refused_number policy font) (flat_map (numbers_of encoding) (map (λ place. place.character) places))
    ≡ not (is_none (option_or (uncoded_in policy encoding places) (missing_code_in policy font (flat_map (elements_at encoding) places))))
refused_when Skip font encoding places = none_skipped_number font (flat_map (numbers_of encoding) (map (λ place. place.character) places))
refused_when Refuse font encoding places =
    refused_either font encoding places
    ∙ sym (either_some (λ (place : Place). Uncoded place.offset place.character) (first_uncoded encoding places) (missing_code_in Refuse font (flat_map (elements_at encoding) places))
    ∙ ap (λ b. not (is_none (first_uncoded encoding places)) || b) (mapped_some (λ (e : Element). Line (Missing e.offset e.number)) (missing_at font encoding places)))

text_refused : (terms : TermsValue) (encoding : Encoding) (first : Bool) (line : List ℕ) → length line ≤ 65535 → fault_in line ≡ None
    → list_any (refused_in terms.policy terms.font) (parts_of (encoded encoding first line)) ≡ not (is_none (utf8_refusal terms encoding first line))
unfolding encoded
text_refused terms encoding first line short decoded =
    parts_refused terms.policy terms.font (encoded encoding first line)
    ∙ refused_when terms.policy terms.font encoding (places_of first line)
    ∙ ap (λ o. not (is_none o)) (sym (refusal_left terms encoding first line short decoded))

some_none : {A : Type 0} (o : Option A) → not (is_none o) ≡ false → o ≡ None
some_none None is = refl
some_none (Some a) is = cc

-- ---- from the setting to the result

-- parts with a setting: none is refused
was_kept : (terms : TermsValue) (so_far made : Setting) (parts : List PartValue) → set_after terms so_far parts ≡ Some made
    → (list_any (refused_in terms.policy terms.font) parts ≡ false) × (onward terms.font terms.limit so_far (line_portions terms.font parts) ≡ Some made)
unfolding set_after
was_kept terms so_far made parts is = by (list_any (refused_in terms.policy terms.font) parts) refl is
  where
    by : (b : Bool) → list_any (refused_in terms.policy terms.font) parts ≡ b → (if b then None else onward terms.font terms.limit so_far (line_portions terms.font parts)) ≡ Some made
        → (list_any (refused_in terms.policy terms.font) parts ≡ false) × (onward terms.font terms.limit so_far (line_portions terms.font parts) ≡ Some made)
    by true there is = absurd (cc)
    by false there is = (there, is)

module _ (terms : TermsValue) (encoding : Option Encoding) (first : Bool) (line : List ℕ) where
  -- a line that isn't refused before it is set
  then_set : refusal_in terms encoding first line ≡ None → line_result terms encoding first line ≡ set_within terms (parts_in encoding first line)
  unfolding line_result
  then_set none = rw none refl

  set_result : (made : Setting) → refusal_in terms encoding first line ≡ None → set_after terms (setting 0 []) (parts_in encoding first line) ≡ Some made
      → line_result terms encoding first line ≡ Ok made
  set_result made none is =
      then_set none
      ∙ ap (λ o. option_map_or Ok o (Err (Line (Steps terms.limit))))
      (sym (setting_is terms.font terms.limit (line_portions terms.font (parts_in encoding first line))) ∙ (was_kept terms (setting 0 []) made (parts_in encoding first line) is).1)

  -- the result of a line that isn't refused before it is set, and has no setting
  steps_result : refusal_in terms encoding first line ≡ None → list_any (refused_in terms.policy terms.font) (parts_in encoding first line) ≡ false
      → set_after terms (setting 0 []) (parts_in encoding first line) ≡ None → line_result terms encoding first line ≡ Err (Line (Steps terms.limit))
  unfolding set_after
  steps_result none kept is =
      then_set none
      ∙ ap (λ o. option_map_or Ok o (Err (Line (Steps terms.limit))))
      (sym (setting_is terms.font terms.limit (line_portions terms.font (parts_in encoding first line))) ∙ rw kept at is)

  pub found_result : (refusal : TextRefusal) → Some refusal ≡ refusal_in terms encoding first line → line_result terms encoding first line ≡ Err refusal
  unfolding line_result
  found_result refusal is = rw (sym is) refl

-- ---- what was tried

module _ (terms : TermsValue) (first : Bool) (line : List ℕ) (format : RecordFormat) (texts : List ℕ) where
  -- a line of bytes
  pub tried_bytes : (kept : Option KeptLine) → length line ≤ 65535 → IsKept format (set_after terms (setting 0 []) (only_part line)) texts kept
      → IsTried terms None first line format texts kept
  unfolding refusal_in
  tried_bytes (Some kept) short is =
      let refused : refusal_of terms line ≡ None = none_met terms line short (sym (codes_refused terms.policy terms.font line) ∙ (was_kept terms (setting 0 []) is.0 (only_part line) is.1).0) in
      (is.0, set_result terms None first line is.0 (ap (option_map Line) refused) is.1, is.2)
  tried_bytes None short is = λ none.
      steps_result terms None first line none (codes_refused terms.policy terms.font line ∙ none_there terms line (unmapped (refusal_of terms line) none)) is
    where
      unmapped : (o : Option LineRefusal) → option_map Line o ≡ None → o ≡ None
      unmapped None is = refl
      unmapped (Some refusal) is = cc

  -- a line in UTF-8
  pub tried_text : (encoding : Encoding) (parts : List PartValue) (kept : Option KeptLine) → length line ≤ 65535 → fault_in line ≡ None
      → parts ≡ parts_of (encoded encoding first line) → IsKept format (set_after terms (setting 0 []) parts) texts kept → IsTried terms (Some encoding) first line format texts kept
  unfolding refusal_in
  tried_text encoding parts (Some kept) short decoded are is =
      let made : set_after terms (setting 0 []) (parts_of (encoded encoding first line)) ≡ Some is.0 = ap (set_after terms (setting 0 [])) (sym are) ∙ is.1 in
      let none : utf8_refusal terms encoding first line ≡ None =
      some_none _ (sym (text_refused terms encoding first line short decoded) ∙ (was_kept terms (setting 0 []) is.0 (parts_of (encoded encoding first line)) made).0) in
      (is.0, set_result terms (Some encoding) first line is.0 none made, is.2)
  tried_text encoding parts None short decoded are is = λ none.
      steps_result terms (Some encoding) first line none (text_refused terms encoding first line short decoded ∙ ap (λ o. not (is_none o)) none)
      (ap (set_after terms (setting 0 [])) (sym are) ∙ is)

  -- a line that is too long
  pub tried_long : (encoding : Option Encoding) → 65535 < length line → IsTried terms encoding first line format texts None
  unfolding refusal_in refusal_of
  tried_long None many = λ none. absurd (none-some _ (sym (rw (lt-ltb 65535 (length line) many) at none)))
  tried_long (Some encoding) many = λ none. absurd (none-some _ (sym (long terms encoding first line many ∙ none)))

  -- one that isn't UTF-8
  pub tried_other : (encoding : Encoding) (offset : ℕ) → length line ≤ 65535 → fault_in line ≡ Some offset → IsTried terms (Some encoding) first line format texts None
  unfolding refusal_in
  tried_other encoding offset short is = λ none. absurd (none-some _ (sym (not_utf8 terms encoding first line offset short is ∙ none)))

-- the numbers of a line without gaps are its codes
pub all_codes : (numbers : List ℕ) → has_gaps numbers ≡ false → filter is_code numbers ≡ numbers
all_codes [] none = refl
all_codes (number ∷ numbers) none = by (is_code number) none (all_codes numbers)
  where
    by : (b : Bool) → not b || has_gaps numbers ≡ false → (has_gaps numbers ≡ false → filter is_code numbers ≡ numbers) → cond b (number ∷ filter is_code numbers) (filter is_code numbers) ≡ number ∷ numbers
    by true none rest = ap (λ l. number ∷ l) (rest none)
    by false none rest = absurd (cc)

-- and they are its only part
code_part : (numbers : List ℕ) → has_gaps numbers ≡ false → only_part (filter is_code numbers) ≡ parts_of numbers
code_part numbers none = ap only_part (all_codes numbers none) ∙ sym (last_part numbers (codes_alone numbers none))
  where
    codes_alone : (xs : List ℕ) → has_gaps xs ≡ false → list_all is_code xs ≡ true
    codes_alone [] none = refl
    codes_alone (x ∷ xs) none = by (is_code x) none (codes_alone xs)
      where
        by : (b : Bool) → not b || has_gaps xs ≡ false → (has_gaps xs ≡ false → list_all is_code xs ≡ true) → b && list_all is_code xs ≡ true
        by true none rest = rest none
        by false none rest = absurd (cc)

-- a line without gaps
pub tried_codes : (terms : TermsValue) (first : Bool) (line : List ℕ) (format : RecordFormat) (texts : List ℕ) (encoding : Encoding) (numbers codes : List ℕ) (kept : Option KeptLine)
    → length line ≤ 65535 → fault_in line ≡ None → numbers ≡ encoded encoding first line → has_gaps numbers ≡ false → codes ≡ filter is_code numbers
    → IsKept format (set_after terms (setting 0 []) (only_part codes)) texts kept → IsTried terms (Some encoding) first line format texts kept
tried_codes terms first line format texts encoding numbers codes kept short decoded are none these is =
    tried_text terms first line format texts encoding (only_part codes) kept short decoded (ap only_part these ∙ code_part numbers none ∙ ap parts_of are) is

pub ruleset tried = (tried_bytes, tried_codes, tried_text, tried_long, tried_other, all_codes, parts_joined)

pub ruleset results = (found_result)

-- ---- the record

-- the record of a line that is set, from what was kept
pub recorded : (version : Version) (font : FontValue) (source place : ℕ) (result : Result Setting TextRefusal) (texts before after : List ℕ) (kept : KeptLine)
    → IsKeptResult (Items version) result texts (Ok kept) → after ≡ before ++ text_record source place (set kept.sums.width kept.sums.steps (take kept.length texts)) version
    → after ≡ before ++ result_record (Items version) font source place result
recorded version font source place result texts before after kept is appended =
    appended ∙ ap (λ r. before ++ text_record source place r version) (text ∙ ap (result_text version) (sym is.1))
  where
    text : set kept.sums.width kept.sums.steps (take kept.length texts) ≡ result_text version (Ok is.0)
    text = rw is.2.sums.width (rw is.2.sums.steps (rw is.2.text refl))

pub box_recorded : (unit : LengthUnit) (font : FontValue) (source place : ℕ) (result : Result Setting TextRefusal) (texts before after : List ℕ) (kept : KeptLine) (extent : Extent)
    → IsKeptResult (Box unit) result texts (Ok kept) → extent.height ≡ largest (map (height_of font) (take kept.length texts)) → extent.depth ≡ largest (map (depth_of font) (take kept.length texts))
    → after ≡ before ++ box_record source place (box_text unit (as_box kept extent)) → after ≡ before ++ result_record (Box unit) font source place result
box_recorded unit font source place result texts before after kept extent is height depth appended =
    appended ∙ ap (λ box. before ++ box_record source place (box_text unit box)) same ∙ ap (λ r. before ++ result_record (Box unit) font source place r) (sym is.1)
  where
    same : as_box kept extent ≡ box_of font is.0.items
    same = rw (is.2.sums.width, height, depth, is.2.spaces, is.2.sums.skipped, is.2.text) refl

pub set_not_refused : (format : RecordFormat) (font : FontValue) (result : Result Setting TextRefusal) (texts : List ℕ) (kept : KeptLine)
    → IsKeptResult format result texts (Ok kept) → false ≡ is_result_refused result
set_not_refused format font result texts kept is = ap is_result_refused (sym is.1)

pub refused_recorded : (format : RecordFormat) (font : FontValue) (source place : ℕ) (result : Result Setting TextRefusal) (refusal : TextRefusal) → result ≡ Err refusal
    → text_record source place (refused refusal) (version_of format) ≡ result_record format font source place result
refused_recorded (Items version) font source place result refusal is = ap (result_record (Items version) font source place) (sym is)
refused_recorded (Box unit) font source place result refusal is = ap (result_record (Box unit) font source place) (sym is)

-- a line that is set isn't refused before
pub none_before : (terms : TermsValue) (encoding : Option Encoding) (first : Bool) (line : List ℕ) (format : RecordFormat) (texts : List ℕ) (kept : KeptLine)
    → IsKeptResult format (line_result terms encoding first line) texts (Ok kept) → refusal_in terms encoding first line ≡ None
unfolding line_result
none_before terms encoding first line format texts kept is = by (refusal_in terms encoding first line) is.1
  where
    by : (o : Option TextRefusal) → option_map_or Err o (set_within terms (parts_in encoding first line)) ≡ Ok is.0 → o ≡ None
    by None made = refl
    by (Some refusal) made = cc

pub on_error : {T E P : Type 0} (r : Result T E) → P → OnErr r P
on_error (Ok value) p = tt
on_error (Err fault) p = p

-- a list without room for the record of a refusal has none for the record of the result
pub room_missing : (format : RecordFormat) (font : FontValue) (source place : ℕ) (result : Result Setting TextRefusal) (refusal : TextRefusal) (out : Vec ℕ) → result ≡ Err refusal
    → HasNoRoomFor out (text_record source place (refused refusal) (version_of format)) → HasNoRoomFor out (result_record format font source place result)
room_missing format font source place result refusal out is full =
    subst (HasNoRoomFor out) (refused_recorded format font source place result refusal is) full

pub ruleset records = (recorded, box_recorded, set_not_refused, refused_recorded, none_before, room_missing)

-- ---- laws

-- a relation between results and outcomes holds for each line of bytes if it holds for each refusal and each setting
pub of_bytes : (terms : TermsValue) (first : Bool) (line : List ℕ) (P : Result Setting TextRefusal → Outcome → Type 0)
    → ((refusal : LineRefusal) → P (Err (Line refusal)) (Refused refusal)) → ((made : Setting) → P (Ok made) (set_as made))
    → P (line_result terms None first line) (outcome_of terms line)
unfolding line_result refusal_in outcome_of
of_bytes terms first line P is_refused_by is_set_by = by (refusal_of terms line)
  where
    within : (o : Option Setting) → P (option_map_or Ok o (Err (Line (Steps terms.limit)))) (option_map_or set_as o (Refused (Steps terms.limit)))
    within None = is_refused_by (Steps terms.limit)
    within (Some made) = is_set_by made

    by : (o : Option LineRefusal) → P (option_map_or Err (option_map Line o) (set_within terms (only_part line))) (option_map_or Refused o (set_or_refused terms line))
    by (Some refusal) = is_refused_by refusal
    by None =
        subst (λ ps. P (option_map_or Ok (setting_of_portions terms.font terms.limit ps) (Err (Line (Steps terms.limit)))) (set_or_refused terms line))
        (sym (alone_portions terms.font line)) (within (setting_of_portions terms.font terms.limit (portions_of terms.font line)))

-- Law: a line of bytes has the record of its outcome
pub text_of_bytes : (terms : TermsValue) (first : Bool) (line : List ℕ) (version : Version) → result_text version (line_result terms None first line) ≡ text_result version (outcome_of terms line)
unfolding text_result
text_of_bytes terms first line version = of_bytes terms first line (λ result outcome. result_text version result ≡ text_result version outcome) (λ _. refl) (λ _. refl)

-- Law: it is refused if its outcome is a refusal
pub refused_bytes : (terms : TermsValue) (first : Bool) (line : List ℕ) → is_result_refused (line_result terms None first line) ≡ is_refusal (outcome_of terms line)
refused_bytes terms first line = of_bytes terms first line (λ result outcome. is_result_refused result ≡ is_refusal outcome) (λ _. refl) (λ _. refl)

-- Law: a line that is too long is refused for this, with any encoding
pub long_result : (terms : TermsValue) (encoding : Option Encoding) (first : Bool) (line : List ℕ) → 65535 < length line
    → line_result terms encoding first line ≡ Err (Line (TooLong (length line)))
unfolding line_result refusal_in refusal_of
long_result terms None first line many = rw (lt-ltb 65535 (length line) many) refl
long_result terms (Some encoding) first line many = rw (sym (long terms encoding first line many)) refl
