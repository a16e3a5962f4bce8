-- The parts of a line.
use Rattle.std.proofs.Common.{◌≡◌, ℕ, ◌+◌, ◌-◌, ◌<◌, ◌≤◌, Bool, true, false, List, [], ◌∷◌, ◌++◌, cond, take, drop, Option, Some, None, MatchOption, IfSome, Bor, slice_index_or, length, arith, refl, ap, sym, subst, ◌∙◌}
use Rattle.std.specs.List.{list_all}
use Rattle.std.proofs.lemmas.Bool.{and_parts, le-ltb, ltb-false}
use Rattle.std.specs.Iterator.{MakesProgress, item_count}
use Rattle.std.proofs.lemmas.List.{take_all}
use Rattle.encodings.specs.declared.parts.Part.{Part}
use Rattle.encodings.specs.Encoded.{AreLeft, parts_left, with_gaps}
use Rattle.encodings.specs.Lines.{is_code}
use Rattle.encodings.specs.Parts.{PartValue, joined, part_numbers, parts_of, with_code}
use Rattle.encodings.specs.Visited.{value_of}
use Rattle.encodings.proofs.EncodedLemmas.{gaps_ordered, parts_all, rest_length}

-- ---- a line in two ways: codes alone, or codes before a character without codes

pub last_part : (codes : List ℕ) → list_all is_code codes ≡ true → parts_of codes ≡ record { codes = codes; gap = None } ∷ []
last_part [] all = refl
last_part (code ∷ codes) all = let both = and_parts (is_code code) (list_all is_code codes) all in rw (both.0, last_part codes both.1) refl

pub part_before : (codes numbers : List ℕ) (character : ℕ) → list_all is_code codes ≡ true → parts_of (codes ++ (256 + character) ∷ numbers) ≡ record { codes = codes; gap = Some character } ∷ parts_of numbers
part_before [] numbers character all =
    let same : 256 + character - 256 ≡ character = omega arith in
    rw (le-ltb (256 + character) 256 (omega arith), same) refl
part_before (code ∷ codes) numbers character all = let both = and_parts (is_code code) (list_all is_code codes) all in rw (both.0, part_before codes numbers character both.1) refl

-- ---- the parts that are still to come

last_left : (codes : Bor (List ℕ)) (from : ℕ) (gaps : List (ℕ × ℕ)) → length gaps < 1 → AreLeft from gaps codes → parts_left (Some codes) from gaps ≡ record { codes = codes.now; gap = None } ∷ []
last_left codes from [] none left = last_part codes.now left.1
last_left codes from (gap ∷ gaps) none left = absurd (omega arith)

-- the last part
pub left_last : (o : Option (Bor (List ℕ))) (codes : Bor (List ℕ)) (from : ℕ) (gaps : List (ℕ × ℕ)) → o ≡ Some codes → length gaps < 1 → IfSome o (AreLeft from gaps) → parts_left o from gaps ≡ record { codes = codes.now; gap = None } ∷ []
left_last o codes from gaps is none left = ap (λ p. parts_left p from gaps) is ∙ last_left codes from gaps none (subst (λ p. IfSome p (AreLeft from gaps)) is left)

-- the codes before the next gap, those after it, and the gaps after it
pub record IsNext (codes : Bor (List ℕ)) (from : ℕ) (gap : ℕ × ℕ) (gaps : List (ℕ × ℕ)) (parts : List PartValue) : Type 0 where
  pub within : gap.0 - from ≤ length codes.now
  pub ordered : from ≤ gap.0
  pub part : (front back : Bor (List ℕ)) → front.now ≡ take (gap.0 - from) codes.now → back.now ≡ drop (gap.0 - from) codes.now
      → parts ≡ record { codes = front.now; gap = Some gap.1 } ∷ parts_left (Some back) gap.0 gaps
  pub left : (back : Bor (List ℕ)) → back.now ≡ drop (gap.0 - from) codes.now → AreLeft gap.0 gaps back

next_of : (codes : Bor (List ℕ)) (from : ℕ) (gap : ℕ × ℕ) (gaps : List (ℕ × ℕ)) → AreLeft from (gap ∷ gaps) codes → IsNext codes from gap gaps (parts_left (Some codes) from (gap ∷ gaps))
next_of codes from gap gaps is =
    let n = gap.0 - from in
    let both = parts_all n codes.now is.1 in
    let last : gap.0 ≤ from + length codes.now = gaps_ordered gap.0 (from + length codes.now) gaps is.0.1 in
    record {
      within = omega (arith, last, is.0.0);
      ordered = is.0.0;
      part = λ front back before after. rw (before, after) (part_before (take n codes.now) (with_gaps gap.0 (drop n codes.now) gaps) gap.1 both.0);
      left = λ back after.
          let ends : gap.0 + length back.now ≡ from + length codes.now = ap (λ l. gap.0 + length l) after ∙ rest_length from gap.0 codes.now is.0.0 last in
          (rw ends is.0.1, rw after both.1);
    }

pub left_next : (o : Option (Bor (List ℕ))) (codes : Bor (List ℕ)) (from : ℕ) (gaps : List (ℕ × ℕ)) → o ≡ Some codes → 1 ≤ length gaps → IfSome o (AreLeft from gaps)
    → IsNext codes from (slice_index_or gaps 0 (0, 0)) (take (length gaps - 1) (drop 1 gaps)) (parts_left o from gaps)
left_next o codes from [] is some left = absurd (omega arith)
left_next o codes from (gap ∷ gaps) is some left =
    let same : length (gap ∷ gaps) - 1 ≡ length gaps = omega arith in
    let rest : take (length (gap ∷ gaps) - 1) gaps ≡ gaps = ap (λ n. take n gaps) same ∙ take_all (length gaps) gaps (omega arith) in
    subst (λ l. IsNext codes from gap l (parts_left o from (gap ∷ gaps))) (sym rest)
    (subst (λ p. IsNext codes from gap gaps (parts_left p from (gap ∷ gaps))) (sym is) (next_of codes from gap gaps (subst (λ p. IfSome p (AreLeft from (gap ∷ gaps))) is left)))

-- after a part fewer are to come
pub goes_on : (can : List PartValue → Type 0) → ((l : List PartValue) → can l) → (s t : List PartValue) (x : Part) → s ≡ value_of x ∷ t
    → MakesProgress can (item_count {S = List PartValue} {A = PartValue} (λ parts. parts)) s (Some x) t
goes_on can always s t x is = record {
  on = λ _. (always t, tt, subst (λ l. length t < length l) (sym is) (omega arith));
  keeps = always t;
  rests = λ _. tt;
}

-- ---- the parts of any line

with_code_joined : (code : ℕ) (parts : List PartValue) → joined (with_code code parts) ≡ code ∷ joined parts
with_code_joined code [] = refl
with_code_joined code (part ∷ parts) = refl

-- the numbers of all parts joined are the line's
pub parts_joined : (numbers : List ℕ) → joined (parts_of numbers) ≡ numbers
parts_joined [] = refl
parts_joined (number ∷ numbers) = by (parts_joined numbers) (is_code number) refl
  where
    by : joined (parts_of numbers) ≡ numbers → (b : Bool) → is_code number ≡ b → joined (cond b (with_code number (parts_of numbers)) (record { codes = []; gap = Some (number - 256) } ∷ parts_of numbers)) ≡ number ∷ numbers
    by rest true is = with_code_joined number (parts_of numbers) ∙ ap (λ l. number ∷ l) rest
    by rest false is =
        let same : 256 + (number - 256) ≡ number = omega (arith, ltb-false number 256 is) in
        ap (λ n. n ∷ joined (parts_of numbers)) same ∙ ap (λ l. number ∷ l) rest

-- what is known of the first part of a line and of the parts after it
pub record IsFirst (numbers : List ℕ) (part : PartValue) (parts : List PartValue) : Type 0 where
  pub codes : list_all is_code part.codes ≡ true
  pub whole : part_numbers part ++ joined parts ≡ numbers
  pub after : MatchOption part.gap (parts ≡ []) (λ character. parts ≡ parts_of (joined parts))

abbrev HasFirst : List ℕ → List PartValue → Type 0
HasFirst numbers [] = ⊥
HasFirst numbers (part ∷ parts) = IsFirst numbers part parts

code_before : (number : ℕ) (numbers : List ℕ) (parts : List PartValue) → is_code number ≡ true → HasFirst numbers parts → HasFirst (number ∷ numbers) (with_code number parts)
code_before number numbers [] is first = absurd first
code_before number numbers (part ∷ parts) is first = record {
  codes = rw is first.codes;
  whole = ap (λ l. number ∷ l) first.whole;
  after = first.after;
}

has_first : (numbers : List ℕ) → HasFirst numbers (parts_of numbers)
has_first [] = record { codes = refl; whole = refl; after = refl }
has_first (number ∷ numbers) = by (has_first numbers) (is_code number) refl
  where
    by : HasFirst numbers (parts_of numbers) → (b : Bool) → is_code number ≡ b → HasFirst (number ∷ numbers) (cond b (with_code number (parts_of numbers)) (record { codes = []; gap = Some (number - 256) } ∷ parts_of numbers))
    by rest true is = code_before number numbers (parts_of numbers) is rest
    by rest false is =
        let same : 256 + (number - 256) ≡ number = omega (arith, ltb-false number 256 is) in
        record {
          codes = refl;
          whole = ap (λ n. n ∷ joined (parts_of numbers)) same ∙ ap (λ l. number ∷ l) (parts_joined numbers);
          after = ap parts_of (sym (parts_joined numbers));
        }

pub first_part : (numbers : List ℕ) (part : PartValue) (parts : List PartValue) → parts_of numbers ≡ part ∷ parts → IsFirst numbers part parts
first_part numbers part parts is = subst (λ l. HasFirst numbers l) is (has_first numbers)
