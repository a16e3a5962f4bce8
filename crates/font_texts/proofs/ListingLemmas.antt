-- Lemmas about the lines of a listing.
use Rattle.std.proofs.Common.{◌≡◌, ℕ, ◌+◌, Bool, true, false, if◌then◌else◌, List, [], ◌∷◌, ◌++◌, ◌∙◌, flat_map, map, filter, refl, ap, sym, arith}
use Rattle.std.proofs.lemmas.Int.{to_z-of_z}
use Rattle.std.proofs.lemmas.List.{append-nil, append_assoc, flat_map_more, map-append, map-id}
use Rattle.std.proofs.lemmas.List.FromFn.{map-range_with_len_more, filter_of_map_range_with_len_more}
use Rattle.std.specs.List.{range_with_len}
use Rattle.font_texts.specs.Listing.{all_codes}

-- the lines of one more number are the lines so far and one more line, if the numbers begin with 0
pub lines_more : (line : ℕ → List ℕ) (n : ℕ)
    → flat_map line (range_with_len 0 (n + 1)) ≡ flat_map line (range_with_len 0 n) ++ line n
lines_more line n =
    ap (flat_map line) (simp map-id at (map-range_with_len_more (λ (k : ℕ). k) 0 n n (omega arith)))
    ∙ sym (flat_map_more line [] (range_with_len 0 n) n)

-- the same if they begin with 1
pub lines_more_from_1 : (line : ℕ → List ℕ) (n : ℕ)
    → flat_map line (range_with_len 1 (n + 1)) ≡ flat_map line (range_with_len 1 n) ++ line (n + 1)
lines_more_from_1 line n =
    ap (flat_map line) (simp map-id at (map-range_with_len_more (λ (k : ℕ). k) 1 n (n + 1) (omega arith)))
    ∙ sym (flat_map_more line [] (range_with_len 1 n) (n + 1))

-- the numbers of a range that pass a test, if the range has one more number
filter-range_more : (p : ℕ → Bool) (n : ℕ)
    → filter p (range_with_len 0 (n + 1)) ≡ filter p (range_with_len 0 n) ++ (if p n then n ∷ [] else [])
filter-range_more p n = simp map-id at (filter_of_map_range_with_len_more p (λ (k : ℕ). k) 0 n n (omega arith))

with_or_without : (line : ℕ → List ℕ) (numbers : List ℕ) (n : ℕ) (b : Bool)
    → flat_map line (numbers ++ (if b then n ∷ [] else [])) ≡ flat_map line numbers ++ (if b then line n else [])
with_or_without line numbers n true = sym (flat_map_more line [] numbers n)
with_or_without line numbers n false = ap (flat_map line) (append-nil numbers) ∙ sym (append-nil (flat_map line numbers))

-- one more number in the range is one more line if the number passes the test, and no line otherwise
pub lines_where_more : (line : ℕ → List ℕ) (p : ℕ → Bool) (n : ℕ)
    → flat_map line (filter p (range_with_len 0 (n + 1))) ≡ flat_map line (filter p (range_with_len 0 n)) ++ (if p n then line n else [])
lines_where_more line p n =
    ap (flat_map line) (filter-range_more p n) ∙ with_or_without line (filter p (range_with_len 0 n)) n (p n)

-- the range of 256 numbers from 0 consists of all codes
pub range-all_codes : (n : ℕ) → n ≡ 256 → range_with_len 0 n ≡ all_codes
unfolding all_codes
range-all_codes n e = ap (range_with_len 0) e

-- one more number in the range is one more element if the number passes the test, and none otherwise
pub map_where_more : {A : Type 0} (f : ℕ → A) (p : ℕ → Bool) (n : ℕ)
    → map f (filter p (range_with_len 0 (n + 1))) ≡ map f (filter p (range_with_len 0 n)) ++ (if p n then f n ∷ [] else [])
map_where_more f p n =
    ap (map f) (filter-range_more p n) ∙ (map-append f (filter p (range_with_len 0 n)) (if p n then n ∷ [] else []) ∙ mapped (p n))
  where
    mapped : (b : Bool) → map f (filter p (range_with_len 0 n)) ++ map f (if b then n ∷ [] else [])
        ≡ map f (filter p (range_with_len 0 n)) ++ (if b then f n ∷ [] else [])
    mapped true = refl
    mapped false = refl

pub ruleset more = (map_where_more, lines_more, lines_more_from_1, lines_where_more, range-all_codes, append_assoc, append-nil)

-- a signed number that is passed by value is converted to bits and back
pub ruleset signed = (to_z-of_z, append_assoc, append-nil)

-- texts that are appended one after the other
pub ruleset joined = (append_assoc, append-nil)
