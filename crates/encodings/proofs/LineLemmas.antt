-- The numbers of a whole line, and lines that aren't UTF-8.
use Rattle.std.proofs.Common.{◌≡◌, ℕ, ◌-◌, ◌≤◌, Bool, List, [], ◌++◌, length, flat_map, Some, None, refl, ap, sym, subst, ◌∙◌, append-nil}
use Rattle.std.specs.Str.{chars, IsUtf8}
use Rattle.std.specs.Str.Lossy.{utf8_valid_len}
use Rattle.encodings.specs.declared.encoding.Encoding.{Encoding}
use Rattle.encodings.specs.Decoding.{IsRead, IsTextOf, text_numbers}
use Rattle.encodings.specs.Lines.{encoded, fault_in, numbers_of}
use Rattle.encodings.proofs.LawLemmas.{places_few}
use Rattle.encodings.proofs.PlaceLemmas.{characters_from, characters_in, is_utf8_if, not_utf8}

-- a line in UTF-8 has at most as many numbers as bytes
pub encoded_few : (encoding : Encoding) (first : Bool) (line : List ℕ) → IsUtf8 line → length (encoded encoding first line) ≤ length line
unfolding encoded
encoded_few encoding first line utf8 = places_few encoding first line utf8

-- ---- whether a line is UTF-8

pub no_fault : (line : List ℕ) → IsUtf8 line → fault_in line ≡ None
unfolding fault_in
no_fault line utf8 = rw (is_utf8_if line utf8) refl

-- the offset at which a line stops being UTF-8
pub fault_found : (line : List ℕ) (offset : ℕ) → ¬ (IsUtf8 line) → offset ≡ utf8_valid_len line → fault_in line ≡ Some offset
unfolding fault_in
fault_found line offset bad is = rw (not_utf8 line bad) (ap Some (sym is))

pub ruleset faults = (no_fault, fault_found)

-- ---- a line whose text was read

text_read : (encoding : Encoding) (text old new : List ℕ) → old ≡ [] → IsRead encoding text [] old new → (IsUtf8 text) × (new ≡ text_numbers encoding text)
text_read encoding text old new none read =
    let whole : text ≡ read.front = read.whole ∙ append-nil read.front in
    (subst IsUtf8 (sym whole) read.utf8, read.numbers ∙ ap (λ l. l ++ text_numbers encoding read.front) none ∙ ap (text_numbers encoding) (sym whole))

pub line_encoded : (encoding : Encoding) (first : Bool) (line text old new : List ℕ) → IsTextOf first line text → old ≡ [] → IsRead encoding text [] old new → new ≡ encoded encoding first line
unfolding encoded
line_encoded encoding first line text old new is none read =
    let result = text_read encoding text old new none read in
    result.1
    ∙ ap (flat_map (numbers_of encoding)) (sym (characters_from (length line - length text) (chars text)) ∙ ap characters_in (is.places result.0))

pub line_few : (encoding : Encoding) (first : Bool) (line text old new : List ℕ) → IsTextOf first line text → old ≡ [] → IsRead encoding text [] old new → length new ≤ length line
line_few encoding first line text old new is none read =
    subst (λ l. length l ≤ length line) (sym (line_encoded encoding first line text old new is none read)) (encoded_few encoding first line (is.whole (text_read encoding text old new none read).0))

pub line_decoded : (encoding : Encoding) (first : Bool) (line text old new : List ℕ) → IsTextOf first line text → old ≡ [] → IsRead encoding text [] old new → fault_in line ≡ None
line_decoded encoding first line text old new is none read = no_fault line (is.whole (text_read encoding text old new none read).0)

pub ruleset whole = (line_encoded, line_few, line_decoded)
