-- The refusals that are known before a line is set.
use Rattle.std.proofs.Common.{◌≡◌, ℕ, ◌<◌, ◌≤◌, length, le-ltb, lt-ltb, Bool, true, false, List, [], ◌∷◌, map, flat_map, Option, Some, None, refl, ap, sym, ◌∙◌}
use Rattle.std.specs.Prelude.{cond, if◌then◌else◌, is_some}
use Rattle.std.specs.Str.{is_utf8}
use Rattle.std.specs.Str.Lossy.{utf8_valid_len}
use Rattle.std.specs.List.{find}
use Rattle.std.specs.Option.{option_map, option_or, unwrap_or}
use Rattle.std.proofs.lemmas.List.Folds.{find-append}
use Rattle.run_plan.specs.declared.policy.Policy.TheVariants.{Refuse}
use Rattle.tfm_tables.specs.Font.{FontValue}
use Rattle.set_line.specs.declared.outcome.LineRefusal.TheVariants.{Missing, TooLong}
use Rattle.set_line.specs.declared.records.text_refusal.TextRefusal.{TextRefusal}
use Rattle.set_line.specs.declared.records.text_refusal.TextRefusal.TheVariants.{Line, NotUtf8, Uncoded}
use Rattle.set_line.specs.Terms.{TermsValue}
use Rattle.set_line.specs.Pieces.{is_neither}
use Rattle.encodings.specs.declared.encoding.Encoding.{Encoding}
use Rattle.encodings.specs.declared.places.Place.{Place}
use Rattle.encodings.specs.Codes.{codes_of}
use Rattle.encodings.specs.Lines.{Element, elements_at, elements_of, fault_in, places_of}
use Rattle.line_records.specs.Results.{missing_at, missing_code_in, uncoded_in, utf8_refusal}

-- ---- character by character

find_mapped : {X Y : Type 0} (p : Y → Bool) (f : X → Y) (xs : List X) → find p (map f xs) ≡ option_map f (find (λ x. p (f x)) xs)
find_mapped p f [] = refl
find_mapped p f (x ∷ xs) = by (p (f x)) (find_mapped p f xs)
  where
    by : (b : Bool) → find p (map f xs) ≡ option_map f (find (λ y. p (f y)) xs) → cond b (Some (f x)) (find p (map f xs)) ≡ option_map f (cond b (Some x) (find (λ y. p (f y)) xs))
    by true rest = refl
    by false rest = rest

-- an element of a code of a character
abbrev pub element : Place → ℕ → Element
element place code = record { offset = place.offset; number = code }

pub missing_here : (font : FontValue) (encoding : Encoding) (place : Place) (rest : List Place) (codes : List ℕ) → codes_of encoding place.character ≡ Some codes
    → missing_at font encoding (place ∷ rest) ≡ option_or (option_map (element place) (find (is_neither font) codes)) (missing_at font encoding rest)
missing_here font encoding place rest codes is =
    let p = λ (e : Element). is_neither font e.number in
    find-append p (elements_at encoding place) (flat_map (elements_at encoding) rest)
    ∙ ap (λ o. option_or (find p (map (element place) (unwrap_or o []))) (missing_at font encoding rest)) is
    ∙ ap (λ o. option_or o (missing_at font encoding rest)) (find_mapped p (element place) codes)

-- the refusal for the first missing code of the first character, or else of a later one
missing_either : (place : Place) (found : Option ℕ) (later : Option Element)
    → option_map (λ (e : Element). Line (Missing e.offset e.number)) (option_or (option_map (element place) found) later)
    ≡ option_or (option_map (λ code. Line (Missing place.offset code)) found) (option_map (λ (e : Element). Line (Missing e.offset e.number)) later)
missing_either place None later = refl
missing_either place (Some code) later = refl

-- the refusal of characters, if this one was found in front of them for a missing code
abbrev pub refusal_after : FontValue → Encoding → Option TextRefusal → List Place → Option TextRefusal
refusal_after font encoding missing places =
    option_or (uncoded_in Refuse encoding places) (option_or missing (missing_code_in Refuse font (flat_map (elements_at encoding) places)))

-- the first character has no codes
pub uncoded_here : (font : FontValue) (encoding : Encoding) (missing : Option TextRefusal) (places : List Place) (place : Place) (rest : List Place)
    → places ≡ place ∷ rest → codes_of encoding place.character ≡ None
    → refusal_after font encoding missing places ≡ Some (Uncoded place.offset place.character)
uncoded_here font encoding missing places place rest cut none = rw (cut, none) refl

-- it has codes, and no missing code was found before
pub missing_next : (font : FontValue) (encoding : Encoding) (missing found : Option TextRefusal) (places : List Place) (place : Place) (rest : List Place) (codes : List ℕ)
    → places ≡ place ∷ rest → codes_of encoding place.character ≡ Some codes → is_some missing ≡ false
    → found ≡ option_map (λ code. Line (Missing place.offset code)) (find (is_neither font) codes)
    → refusal_after font encoding missing places ≡ refusal_after font encoding found rest
missing_next font encoding (Some missing) found places place rest codes cut is none same = cc
missing_next font encoding None found places place rest codes cut is none same =
    let later : missing_code_in Refuse font (flat_map (elements_at encoding) (place ∷ rest)) ≡ option_or found (missing_code_in Refuse font (flat_map (elements_at encoding) rest)) =
    ap (option_map (λ (e : Element). Line (Missing e.offset e.number))) (missing_here font encoding place rest codes is)
    ∙ missing_either place (find (is_neither font) codes) (missing_at font encoding rest)
    ∙ ap (λ o. option_or o (missing_code_in Refuse font (flat_map (elements_at encoding) rest))) (sym same) in
    rw (cut, later, is) refl

-- it has codes, and a missing code was found before
pub found_before : (font : FontValue) (encoding : Encoding) (missing : TextRefusal) (places : List Place) (place : Place) (rest : List Place) (codes : List ℕ)
    → places ≡ place ∷ rest → codes_of encoding place.character ≡ Some codes
    → refusal_after font encoding (Some missing) places ≡ refusal_after font encoding (Some missing) rest
found_before font encoding missing places place rest codes cut is = rw (cut, is) refl

-- no character is left
pub none_left : (font : FontValue) (encoding : Encoding) (missing : Option TextRefusal) (places : List Place) → places ≡ [] → refusal_after font encoding missing places ≡ missing
none_left font encoding None places none = rw none refl
none_left font encoding (Some missing) places none = rw none refl

pub ruleset steps = (uncoded_here, found_before, none_left)

-- ---- the whole line

pub long : (terms : TermsValue) (encoding : Encoding) (first : Bool) (line : List ℕ) → 65535 < length line
    → Some (Line (TooLong (length line))) ≡ utf8_refusal terms encoding first line
unfolding utf8_refusal
long terms encoding first line many = sym (rw (lt-ltb 65535 (length line) many) refl)

pub not_utf8 : (terms : TermsValue) (encoding : Encoding) (first : Bool) (line : List ℕ) (offset : ℕ) → length line ≤ 65535 → fault_in line ≡ Some offset
    → Some (NotUtf8 offset) ≡ utf8_refusal terms encoding first line
unfolding utf8_refusal
not_utf8 terms encoding first line offset short is = sym (rw (le-ltb 65535 (length line) short, is) refl)

-- what is left if a line in UTF-8 isn't too long
pub refusal_left : (terms : TermsValue) (encoding : Encoding) (first : Bool) (line : List ℕ) → length line ≤ 65535 → fault_in line ≡ None
    → utf8_refusal terms encoding first line
    ≡ option_or (uncoded_in terms.policy encoding (places_of first line)) (missing_code_in terms.policy terms.font (flat_map (elements_at encoding) (places_of first line)))
unfolding utf8_refusal elements_of
refusal_left terms encoding first line short none = rw (le-ltb 65535 (length line) short, none) refl

-- a line with no place at which it stops being UTF-8 is UTF-8
pub is_decoded : (line : List ℕ) → fault_in line ≡ None → is_utf8 line ≡ true
unfolding fault_in
is_decoded line none = by (is_utf8 line) none
  where
    by : (b : Bool) → (if b then None else Some (utf8_valid_len line)) ≡ None → b ≡ true
    by true none = refl
    by false none = cc

-- a line that is UTF-8 has no such place
pub no_fault : (line : List ℕ) → is_utf8 line ≡ true → fault_in line ≡ None
unfolding fault_in
no_fault line is = rw is refl

pub ruleset refusals = (long, not_utf8, refusal_left, is_decoded, no_fault)
