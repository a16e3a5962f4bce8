-- The codes and the characters without codes of a line as they are kept, and the numbers of the line.
use Rattle.std.proofs.Common.{◌≡◌, ℕ, suc, ◌+◌, ◌-◌, ◌<◌, ◌≤◌, Bool, true, false, List, [], ◌∷◌, ◌++◌, ◌||◌, not, cond, nat_eq, length, get_or, take, drop, arith, refl, ap, sym, subst, ◌∙◌}
use Rattle.std.specs.List.{filter, list_all}
use Rattle.std.proofs.lemmas.Bool.{and_parts, le-ltb, lt-ltb}
use Rattle.std.proofs.lemmas.Bool.Decides.{nat_tests}
use Rattle.std.proofs.lemmas.List.{append_assoc, drop-append-le, drop_all, length-drop, take_all, take-append-drop, take-append-le}
use Rattle.std.proofs.lemmas.List.Elements.{filter-append}
use Rattle.std.proofs.lemmas.List.Folds.{list_all-append, list_any-append}
use Rattle.encodings.specs.Encoded.{AreBetween, with_gaps}
use Rattle.encodings.specs.Lines.{has_gaps, is_code}

-- the codes after the next gap
pub rest_length : (from at : ℕ) (codes : List ℕ) → from ≤ at → at ≤ from + length codes → at + length (drop (at - from) codes) ≡ from + length codes
rest_length from at codes low high = omega (arith, length-drop (at - from) codes)

-- gaps are within
pub gaps_ordered : (from end : ℕ) (gaps : List (ℕ × ℕ)) → AreBetween from end gaps → from ≤ end
gaps_ordered from end [] are = are
gaps_ordered from end (gap ∷ gaps) are = omega (arith, are.0, gaps_ordered gap.0 end gaps are.1)

pub still_between : (from end more : ℕ) (gaps : List (ℕ × ℕ)) → end ≤ more → AreBetween from end gaps → AreBetween from more gaps
still_between from end more [] longer are = omega (arith, longer, are)
still_between from end more (gap ∷ gaps) longer are = (are.0, still_between gap.0 end more gaps longer are.1)

pub gap_between : (from end character : ℕ) (gaps : List (ℕ × ℕ)) → AreBetween from end gaps → AreBetween from end (gaps ++ (end, character) ∷ [])
gap_between from end character [] are = (are, omega arith)
gap_between from end character (gap ∷ gaps) are = (are.0, gap_between gap.0 end character gaps are.1)

-- ---- appended codes and gaps

more_codes : (from end : ℕ) (codes more : List ℕ) (gaps : List (ℕ × ℕ)) → end ≡ from + length codes → AreBetween from end gaps → with_gaps from (codes ++ more) gaps ≡ with_gaps from codes gaps ++ more
more_codes from end codes more [] is are = refl
more_codes from end codes more (gap ∷ gaps) is are =
    let n = gap.0 - from in
    let within : n ≤ length codes = omega (arith, is, are.0, gaps_ordered gap.0 end gaps are.1) in
    let rest = more_codes gap.0 end (drop n codes) more gaps (is ∙ sym (rest_length from gap.0 codes are.0 (omega (arith, is, gaps_ordered gap.0 end gaps are.1)))) are.1 in
    rw (take-append-le n codes more within, drop-append-le n codes more within, rest) (sym (append_assoc (take n codes) ((256 + gap.1) ∷ with_gaps gap.0 (drop n codes) gaps) more))

more_gaps : (from end : ℕ) (codes : List ℕ) (gaps : List (ℕ × ℕ)) (character : ℕ) → end ≡ from + length codes → AreBetween from end gaps
    → with_gaps from codes (gaps ++ (end, character) ∷ []) ≡ with_gaps from codes gaps ++ (256 + character) ∷ []
more_gaps from end codes [] character is are =
    let all : end - from ≡ length codes = omega (arith, is) in
    rw (all, take_all (length codes) codes (omega arith), drop_all (length codes) codes (omega arith)) refl
more_gaps from end codes (gap ∷ gaps) character is are =
    let n = gap.0 - from in
    let rest = more_gaps gap.0 end (drop n codes) gaps character (is ∙ sym (rest_length from gap.0 codes are.0 (omega (arith, is, gaps_ordered gap.0 end gaps are.1)))) are.1 in
    rw rest (sym (append_assoc (take n codes) ((256 + gap.1) ∷ with_gaps gap.0 (drop n codes) gaps) ((256 + character) ∷ [])))

pub pushed_codes : (codes more : List ℕ) (gaps : List (ℕ × ℕ)) → AreBetween 0 (length codes) gaps → with_gaps 0 (codes ++ more) gaps ≡ with_gaps 0 codes gaps ++ more
pushed_codes codes more gaps are = more_codes 0 (length codes) codes more gaps (omega arith) are

pub pushed_gap : (codes : List ℕ) (gaps : List (ℕ × ℕ)) (at character : ℕ) → at ≡ length codes → AreBetween 0 (length codes) gaps
    → with_gaps 0 codes (gaps ++ (at, character) ∷ []) ≡ with_gaps 0 codes gaps ++ (256 + character) ∷ []
pushed_gap codes gaps at character is are = more_gaps 0 at codes gaps character (omega (arith, is)) (subst (λ n. AreBetween 0 n gaps) (sym is) are)

-- ---- which numbers are codes

pub all_codes : (codes : List ℕ) → ((k : ℕ) → get_or codes k 0 < 256) → list_all is_code codes ≡ true
all_codes [] below = refl
all_codes (code ∷ codes) below = rw (lt-ltb code 256 (below 0)) (all_codes codes (λ k. below (suc k)))

above : (character : ℕ) → is_code (256 + character) ≡ false
above character = le-ltb (256 + character) 256 (omega arith)

codes_kept : (codes : List ℕ) → list_all is_code codes ≡ true → filter is_code codes ≡ codes
codes_kept [] all = refl
codes_kept (code ∷ codes) all = let parts = and_parts (is_code code) (list_all is_code codes) all in rw (parts.0, codes_kept codes parts.1) refl

pub parts_all : (n : ℕ) (codes : List ℕ) → list_all is_code codes ≡ true → (list_all is_code (take n codes) ≡ true) × (list_all is_code (drop n codes) ≡ true)
parts_all n codes all = and_parts _ _ (sym (list_all-append is_code (take n codes) (drop n codes)) ∙ ap (list_all is_code) (take-append-drop n codes) ∙ all)

-- the codes of a line are its numbers that are codes
pub codes_filtered : (from : ℕ) (codes : List ℕ) (gaps : List (ℕ × ℕ)) → list_all is_code codes ≡ true → codes ≡ filter is_code (with_gaps from codes gaps)
codes_filtered from codes [] all = sym (codes_kept codes all)
codes_filtered from codes (gap ∷ gaps) all =
    let n = gap.0 - from in
    let both = parts_all n codes all in
    sym (filter-append is_code (take n codes) ((256 + gap.1) ∷ with_gaps gap.0 (drop n codes) gaps)
    ∙ ap (λ b. filter is_code (take n codes) ++ cond b ((256 + gap.1) ∷ filter is_code (with_gaps gap.0 (drop n codes) gaps)) (filter is_code (with_gaps gap.0 (drop n codes) gaps))) (above gap.1)
    ∙ ap (λ l. l ++ filter is_code (with_gaps gap.0 (drop n codes) gaps)) (codes_kept (take n codes) both.0)
    ∙ ap (λ l. take n codes ++ l) (sym (codes_filtered gap.0 (drop n codes) gaps both.1))
    ∙ take-append-drop n codes)

no_gaps : (codes : List ℕ) → list_all is_code codes ≡ true → has_gaps codes ≡ false
no_gaps [] all = refl
no_gaps (code ∷ codes) all = let parts = and_parts (is_code code) (list_all is_code codes) all in rw parts.0 (no_gaps codes parts.1)

or_true : (b : Bool) → b || true ≡ true
or_true true = refl
or_true false = refl

nonempty : (gap : ℕ × ℕ) (gaps : List (ℕ × ℕ)) → true ≡ not (nat_eq (length (gap ∷ gaps)) 0)
nonempty gap gaps = grind (arith, nat_tests)

-- a line has characters without codes if some are kept
pub gaps_kept : (codes : List ℕ) (gaps : List (ℕ × ℕ)) → list_all is_code codes ≡ true → has_gaps (with_gaps 0 codes gaps) ≡ not (nat_eq (length gaps) 0)
gaps_kept codes [] all = no_gaps codes all
gaps_kept codes (gap ∷ gaps) all =
    list_any-append (λ number. not (is_code number)) (take (gap.0 - 0) codes) ((256 + gap.1) ∷ with_gaps gap.0 (drop (gap.0 - 0) codes) gaps)
    ∙ ap (λ b. has_gaps (take (gap.0 - 0) codes) || (not b || has_gaps (with_gaps gap.0 (drop (gap.0 - 0) codes) gaps))) (above gap.1)
    ∙ or_true (has_gaps (take (gap.0 - 0) codes))
    ∙ nonempty gap gaps

-- ---- what is kept after more codes

pub still_codes : (codes more : List ℕ) → list_all is_code codes ≡ true → ((k : ℕ) → get_or more k 0 < 256) → list_all is_code (codes ++ more) ≡ true
still_codes codes more all below = list_all-append is_code codes more ∙ rw (all, all_codes more below) refl

pub still_code : (codes : List ℕ) (code : ℕ) → list_all is_code codes ≡ true → code < 256 → list_all is_code (codes ++ code ∷ []) ≡ true
still_code codes code all small = list_all-append is_code codes (code ∷ []) ∙ rw (all, lt-ltb code 256 small) refl

pub ruleset pushed = (pushed_codes, pushed_gap, still_between, gap_between, still_codes, still_code)
