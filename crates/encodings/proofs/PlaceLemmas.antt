-- The characters of a line with their places, without a byte order mark.
use Rattle.std.proofs.Common.{◌≡◌, ℕ, ◌+◌, ◌-◌, ◌<◌, ◌≤◌, Bool, true, false, List, [], ◌∷◌, ◌++◌, length, length-append, take, drop, map, arith, refl, ap, sym, subst, ◌∙◌}
use lib.Utf8.{encode, scalars}
use Rattle.std.specs.Prelude.{nat_eq, cond}
use Rattle.std.specs.Char.{encode_utf8, len_utf8}
use Rattle.std.specs.Str.{chars, encode_utf8_all, is_utf8, IsUtf8}
use Rattle.std.proofs.lemmas.Bool.{and_parts, eqb-true}
use Rattle.std.proofs.lemmas.Bool.Decides.{nat_tests}
use Rattle.std.proofs.Math.Seq.{drop-append_seam}
use Rattle.std.proofs.lemmas.List.{append_assoc, take-append-drop}
pub use Rattle.std.proofs.lemmas.Str.{chars_past_char}
use Rattle.std.proofs.lemmas.Str.{chars-nil, encode_same, encodes-chars, is_utf8-from_IsUtf8, IsUtf8-append, IsUtf8-encode, IsUtf8-from_is_utf8, length-encode, len_utf8_bounds}
use Rattle.encodings.specs.declared.places.Place.{Place}
use Rattle.encodings.specs.Decoding.{IsTextOf, begins_with_mark}
use Rattle.encodings.specs.Lines.{places_from, places_of, without_mark}

-- ---- the first character of a text

-- a text without its first character is shorter
pub shorter_text : (c : ℕ) (text rest : List ℕ) → text ≡ encode_utf8 c ++ rest → length rest < length text
shorter_text c text rest is = omega (arith, ap length is, length-append (encode_utf8 c) rest, length-encode c, len_utf8_bounds c)

-- an empty text has no characters
pub empty_text : (text : List ℕ) → length text ≡ 0 → chars text ≡ []
empty_text [] empty = chars-nil
empty_text (c ∷ text) empty = absurd (omega arith)

pub ruleset first_character = (chars_past_char, shorter_text, empty_text)

-- a text whose front begins with a character begins with it, too
pub cut_off : (c len : ℕ) (text front more back : List ℕ) → front ≡ take len text → front ≡ encode_utf8 c ++ more → back ≡ drop (len_utf8 c) text → text ≡ encode_utf8 c ++ back
cut_off c len text front more back is begins_so cut =
    let whole : text ≡ encode_utf8 c ++ (more ++ drop len text) =
    sym (take-append-drop len text) ∙ ap (λ l. l ++ drop len text) (sym is ∙ begins_so) ∙ append_assoc (encode_utf8 c) more (drop len text) in
    let after : drop (len_utf8 c) text ≡ more ++ drop len text =
    ap (λ n. drop n text) (sym (length-encode c)) ∙ ap (drop (length (encode_utf8 c))) whole ∙ drop-append_seam (encode_utf8 c) (more ++ drop len text) in
    whole ∙ ap (λ l. encode_utf8 c ++ l) (sym after ∙ sym cut)

-- the front isn't shorter than the character
pub character_fits : (c len : ℕ) (text front more : List ℕ) → front ≡ take len text → front ≡ encode_utf8 c ++ more → len_utf8 c ≤ length text
character_fits c len text front more is begins_so =
    omega (arith, length-append (encode_utf8 c) more, length-encode c, ap length begins_so, ap length is, length-append (take len text) (drop len text), ap length (take-append-drop len text))

pub ruleset cut_character = (cut_off, character_fits)

-- ---- the characters at some places

abbrev pub characters_in : List Place → List ℕ
characters_in places = map (λ place. place.character) places

pub characters_from : (offset : ℕ) (characters : List ℕ) → characters_in (places_from offset characters) ≡ characters
characters_from offset [] = refl
characters_from offset (c ∷ cs) = ap (λ l. c ∷ l) (characters_from (offset + len_utf8 c) cs)

-- ---- the byte order mark

abbrev mark : List ℕ
mark = 0xEF ∷ 0xBB ∷ 0xBF ∷ []

mark_is : encode_utf8 0xFEFF ≡ mark
unfolding encode
mark_is = refl

marked : (line : List ℕ) → begins_with_mark line ≡ true → line ≡ mark ++ drop 3 line
marked [] is = cc
marked (a ∷ []) is = cc
marked (a ∷ b ∷ []) is = cc
marked (a ∷ b ∷ c ∷ rest) is =
    let one = and_parts _ _ (and_parts _ _ is).1 in
    let two = and_parts _ _ one.1 in
    cc (eqb-true a 0xEF one.0, eqb-true b 0xBB two.0, eqb-true c 0xBF two.1)

-- a text after its first character is UTF-8 if the whole text is
after_character : (c : ℕ) (rest : List ℕ) → IsUtf8 (encode_utf8 c ++ rest) → IsUtf8 rest
after_character c rest utf8 = by utf8.0 utf8.1.0 utf8.1.1
  where
    by : (cs : List ℕ) → scalars cs ≡ true → encode_utf8_all cs ≡ encode_utf8 c ++ rest → IsUtf8 rest
    by [] valid is = absurd (omega (arith, ap length is, length-append (encode_utf8 c) rest, length-encode c, len_utf8_bounds c))
    by (d ∷ cs) valid is = (cs, ((and_parts _ _ valid).1, (encode_same d c (encode_utf8_all cs) rest is).1))

-- the first line without the mark before it
pub mark_left_out : (first : Bool) (line text : List ℕ) → first ≡ true → begins_with_mark line ≡ true → text ≡ drop 3 line → IsTextOf first line text
unfolding places_of
mark_left_out false line text is with_mark dropped = cc
mark_left_out true line text is with_mark dropped = record {
  utf8 = λ utf8. after_character 0xFEFF text (subst IsUtf8 whole utf8);
  whole = λ utf8. subst IsUtf8 (sym whole) (IsUtf8-append (encode_utf8 0xFEFF) text mark_utf8 utf8);
  places = λ utf8. same (chars line) (chars_past_char line text 0xFEFF (subst IsUtf8 (sym whole) (IsUtf8-append (encode_utf8 0xFEFF) text mark_utf8 utf8)) whole);
}
  where
    whole : line ≡ encode_utf8 0xFEFF ++ text
    whole = marked line with_mark ∙ ap (λ l. mark ++ l) (sym dropped) ∙ ap (λ l. l ++ text) (sym mark_is)

    mark_utf8 : IsUtf8 (encode_utf8 0xFEFF)
    mark_utf8 = IsUtf8-encode 0xFEFF refl

    same : (characters : List ℕ) → characters ≡ 0xFEFF ∷ chars text → places_from (length line - length text) (chars text) ≡ without_mark true (places_from 0 characters)
    same characters are =
        let three : length line - length text ≡ 3 = omega (arith, ap length whole, length-append (encode_utf8 0xFEFF) text, ap length mark_is) in
        rw (are, three) refl

begins : (rest : List ℕ) → begins_with_mark (0xEF ∷ 0xBB ∷ 0xBF ∷ rest) ≡ true
begins rest = grind (arith, nat_tests)

-- a line that isn't the first one, and one without a mark
unmarked : (line : List ℕ) (places : List Place) → places ≡ without_mark false places
unmarked line [] = refl
unmarked line (place ∷ places) = refl

other_begins : (line characters : List ℕ) → encode_utf8_all characters ≡ line → begins_with_mark line ≡ false → places_from 0 characters ≡ without_mark true (places_from 0 characters)
other_begins line [] is other = refl
other_begins line (c ∷ cs) is other = by (nat_eq c 0xFEFF) refl
  where
    by : (b : Bool) → nat_eq c 0xFEFF ≡ b → places_from 0 (c ∷ cs) ≡ cond b (places_from (0 + len_utf8 c) cs) (places_from 0 (c ∷ cs))
    by true same =
        let marked : mark ++ encode_utf8_all cs ≡ line = ap (λ l. l ++ encode_utf8_all cs) (sym mark_is) ∙ ap (λ d. encode_utf8 d ++ encode_utf8_all cs) (sym (eqb-true c 0xFEFF same)) ∙ is in
        cc (begins (encode_utf8_all cs), subst (λ l. begins_with_mark l ≡ false) (sym marked) other)
    by false differs = refl

whole_line : (first : Bool) (line : List ℕ) → (IsUtf8 line → places_from 0 (chars line) ≡ places_of first line) → IsTextOf first line line
whole_line first line same = record {
  utf8 = λ utf8. utf8;
  whole = λ utf8. utf8;
  places = λ utf8. let none : length line - length line ≡ 0 = omega arith in rw none (same utf8);
}

pub later_line : (first : Bool) (line : List ℕ) → first ≡ false → IsTextOf first line line
unfolding places_of
later_line true line is = cc
later_line false line is = whole_line false line (λ utf8. unmarked line (places_from 0 (chars line)))

pub mark_absent : (first : Bool) (line : List ℕ) → begins_with_mark line ≡ false → IsTextOf first line line
unfolding places_of
mark_absent true line other = whole_line true line (λ utf8. other_begins line (chars line) (encodes-chars line utf8) other)
mark_absent false line other = later_line false line refl

pub ruleset marks = (mark_left_out, later_line, mark_absent)

-- ---- whether a line is UTF-8

pub is_utf8_if : (line : List ℕ) → IsUtf8 line → is_utf8 line ≡ true
is_utf8_if line utf8 = is_utf8-from_IsUtf8 line utf8

pub not_utf8 : (line : List ℕ) → ¬ (IsUtf8 line) → is_utf8 line ≡ false
not_utf8 line bad = by (is_utf8 line) refl
  where
    by : (b : Bool) → is_utf8 line ≡ b → b ≡ false
    by true is = absurd (bad (IsUtf8-from_is_utf8 line is))
    by false is = refl

pub line_is_utf8 : (first : Bool) (line text : List ℕ) → IsTextOf first line text → IsUtf8 text → is_utf8 line ≡ true
line_is_utf8 first line text is utf8 = is_utf8_if line (is.whole utf8)

pub line_not_utf8 : (first : Bool) (line text : List ℕ) → IsTextOf first line text → ¬ (IsUtf8 text) → is_utf8 line ≡ false
line_not_utf8 first line text is bad = not_utf8 line (λ utf8. bad (is.utf8 utf8))

-- the characters of the rest of a line after its mark
pub line_places : (first : Bool) (line text rest : List ℕ) (offset : ℕ) → IsTextOf first line text → IsUtf8 text → rest ≡ text → offset ≡ length line - length text
    → places_from offset (chars rest) ≡ places_of first line
line_places first line text rest offset is utf8 same at = rw (same, at) (is.places utf8)

pub ruleset decoded = (line_is_utf8, line_not_utf8, line_places)
