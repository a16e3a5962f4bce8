-- The refusal of a span, from what was found on the way.
use Rattle.std.proofs.Common.{◌≡◌, ℕ, ◌+◌, ◌<◌, ◌≤◌, Bool, true, false, List, [], ◌∷◌, ◌++◌, length, drop, get_or, Some, None, arith, refl, ap, sym, ◌∙◌, append-nil, below_more, length-append, length-drop}
use Rattle.std.specs.Prelude.{nat_lt, slice_index}
use Rattle.std.specs.List.{position}
use Rattle.std.specs.Option.{option_map}
use Rattle.std.proofs.lemmas.List.{length-take-le}
use Rattle.std.proofs.lemmas.List.Quantifiers.{position-Some}
use Rattle.std.proofs.lemmas.List.Sums.{position_or_len_is}
use Rattle.std.proofs.Math.ListN.{get_or-append}
use Rattle.std.proofs.Math.Seq.{get_or-append_seam}
use Rattle.tfm_tables.specs.Font.{FontValue}
use Rattle.lig_kern.specs.Places.{hyphen_codes}
use Rattle.set_line.proofs.PieceLemmas.{none_passes}
use Rattle.spans.specs.declared.span.Span.{Span}
use Rattle.spans.specs.declared.outcome.SpanRefusal.TheVariants.{Outside, TooLong, Missing}
use Rattle.spans.specs.Spans.{HasCodes, codes_of, is_missing, refusal_of}

-- ---- the first place that passes a test

pub found_first : (p : ℕ → Bool) (xs : List ℕ) (i : ℕ) → i < length xs → ((k : ℕ) → k < i → p (get_or xs k 0) ≡ false) → p (get_or xs i 0) ≡ true
    → position p xs ≡ Some i
found_first p xs i within before here =
    let first = position_or_len_is p xs i 0 (omega arith) before (λ _. here) in
    let test : nat_lt i (length xs) ≡ true = grind arith in
    rw first (rw test refl)

pub found_none : (p : ℕ → Bool) (xs : List ℕ) → ((k : ℕ) → k < length xs → p (get_or xs k 0) ≡ false) → position p xs ≡ None
found_none p xs before =
    let first = position_or_len_is p xs (length xs) 0 (omega arith) before (λ within. absurd (omega arith)) in
    let test : nat_lt (length xs) (length xs) ≡ false = grind arith in
    rw first (rw test refl)

found_in_front : (p : ℕ → Bool) (xs ys : List ℕ) (i : ℕ) → position p xs ≡ Some i → position p (xs ++ ys) ≡ Some i
found_in_front p xs ys i is =
    let some = position-Some p xs i 0 is in
    found_first p (xs ++ ys) i (omega (arith, some.0, length-append xs ys))
    (λ k below. ap p (get_or-append xs ys 0 k (omega (arith, some.0))) ∙ some.2 k below)
    (ap p (get_or-append xs ys 0 i some.0) ∙ some.1)

none_in_front : (p : ℕ → Bool) (xs ys : List ℕ) → position p xs ≡ None → (k : ℕ) → k < length xs → p (get_or (xs ++ ys) k 0) ≡ false
none_in_front p xs ys none k within = ap p (get_or-append xs ys 0 k within) ∙ none_passes p xs none k 0 within

found_at_end : (p : ℕ → Bool) (xs : List ℕ) (y : ℕ) → position p xs ≡ None → p y ≡ true → position p (xs ++ y ∷ []) ≡ Some (length xs)
found_at_end p xs y none last =
    found_first p (xs ++ y ∷ []) (length xs) (omega (arith, length-append xs (y ∷ []))) (none_in_front p xs (y ∷ []) none) (ap p (get_or-append_seam xs y [] 0) ∙ last)

nowhere_at_end : (p : ℕ → Bool) (xs : List ℕ) (y : ℕ) → position p xs ≡ None → p y ≡ false → position p (xs ++ y ∷ []) ≡ None
nowhere_at_end p xs y none last = found_none p (xs ++ y ∷ []) (λ k within.
    below_more (λ k. p (get_or (xs ++ y ∷ []) k 0) ≡ false) (length xs) (none_in_front p xs (y ∷ []) none) (ap p (get_or-append_seam xs y [] 0) ∙ last)
    k (omega (arith, length-append xs (y ∷ []))))

-- ---- the codes of a span that ends within the text

pub code_length : (text : List ℕ) (span : Span) (codes : List ℕ) → codes ≡ codes_of text span → span.offset + span.length ≤ length text → length codes ≡ span.length
code_length text span codes are within =
    ap length are ∙ length-take-le span.length (drop span.offset text) (omega (arith, length-drop span.offset text))

pub has_codes : (text : List ℕ) (span : Span) (codes : List ℕ) → codes ≡ codes_of text span → span.offset + span.length ≤ length text → length codes ≤ 65535
    → HasCodes text span codes
has_codes text span codes are within short = record {
  are = are;
  within = within;
  long = code_length text span codes are within;
  short = omega (arith, short, code_length text span codes are within);
}

-- ---- the refusal

pub outside : (font : FontValue) (text : List ℕ) (span : Span) → length text < span.offset + span.length → refusal_of font text span ≡ Some Outside
unfolding refusal_of
outside font text span past = let test : nat_lt (length text) (span.offset + span.length) ≡ true = grind arith in rw test refl

pub too_long : (font : FontValue) (text : List ℕ) (span : Span) → span.offset + span.length ≤ length text → 65535 < span.length → refusal_of font text span ≡ Some TooLong
unfolding refusal_of
too_long font text span within long =
    let test : nat_lt (length text) (span.offset + span.length) ≡ false = grind arith in
    let test' : nat_lt 65535 span.length ≡ true = grind arith in
    rw test (rw test' refl)

module _ (font : FontValue) (text : List ℕ) (span : Span) (codes : List ℕ) (has : HasCodes text span codes) where
  known : refusal_of font text span ≡ option_map (λ i. Missing (span.offset + i) (slice_index (codes ++ hyphen_codes span.hyphen) i)) (position (is_missing font) (codes ++ hyphen_codes span.hyphen))
  unfolding refusal_of
  known =
      let test : nat_lt (length text) (span.offset + span.length) ≡ false = grind (arith, has.within) in
      let test' : nat_lt 65535 span.length ≡ false = grind (arith, has.short) in
      rw test (rw test' (rw has.are refl))

  pub missing_code : (at code : ℕ) → position (is_missing font) codes ≡ Some at → code ≡ get_or codes at 0
      → refusal_of font text span ≡ Some (Missing (span.offset + at) code)
  missing_code at code is read =
      known ∙ ap (option_map (λ i. Missing (span.offset + i) (slice_index (codes ++ hyphen_codes span.hyphen) i))) (found_in_front (is_missing font) codes (hyphen_codes span.hyphen) at is)
      ∙ ap (λ one. Some (Missing (span.offset + at) one)) (get_or-append codes (hyphen_codes span.hyphen) 0 at (position-Some (is_missing font) codes at 0 is).0 ∙ sym read)

  pub missing_hyphen : (code : ℕ) → position (is_missing font) codes ≡ None → span.hyphen ≡ Some code → is_missing font code ≡ true
      → refusal_of font text span ≡ Some (Missing (span.offset + span.length) code)
  missing_hyphen code none hyphen missing =
      known ∙ ap (λ h. option_map (λ i. Missing (span.offset + i) (slice_index (codes ++ hyphen_codes h) i)) (position (is_missing font) (codes ++ hyphen_codes h))) hyphen
      ∙ ap (option_map (λ i. Missing (span.offset + i) (slice_index (codes ++ code ∷ []) i))) (found_at_end (is_missing font) codes code none missing)
      ∙ ap (λ one. Some (Missing (span.offset + length codes) one)) (get_or-append_seam codes code [] 0)
      ∙ ap (λ n. Some (Missing (span.offset + n) code)) has.long

  pub accepted_with : (code : ℕ) → position (is_missing font) codes ≡ None → span.hyphen ≡ Some code → is_missing font code ≡ false → refusal_of font text span ≡ None
  accepted_with code none hyphen here =
      known ∙ ap (λ h. option_map (λ i. Missing (span.offset + i) (slice_index (codes ++ hyphen_codes h) i)) (position (is_missing font) (codes ++ hyphen_codes h))) hyphen
      ∙ ap (option_map (λ i. Missing (span.offset + i) (slice_index (codes ++ code ∷ []) i))) (nowhere_at_end (is_missing font) codes code none here)

  pub accepted_without : position (is_missing font) codes ≡ None → span.hyphen ≡ None → refusal_of font text span ≡ None
  accepted_without none hyphen =
      known ∙ ap (λ h. option_map (λ i. Missing (span.offset + i) (slice_index (codes ++ hyphen_codes h) i)) (position (is_missing font) (codes ++ hyphen_codes h))) hyphen
      ∙ ap (λ xs. option_map (λ i. Missing (span.offset + i) (slice_index xs i)) (position (is_missing font) xs)) (append-nil codes)
      ∙ ap (option_map (λ i. Missing (span.offset + i) (slice_index codes i))) none

pub ruleset refusals = (outside, has_codes)
