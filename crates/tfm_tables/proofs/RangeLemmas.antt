-- The first error in the rows of a range of numbers, computed from the rows of each number.
use Rattle.std.proofs.Common.{◌≡◌, ℕ, zero, suc, ◌+◌, ◌<◌, ◌≤◌, Bool, List, Option, Some, None, arith, refl, ap, sym, subst, ◌∙◌, ◌⊎◌, inl, inr}
use Rattle.std.proofs.lemmas.Bool.{cases_lt}
use Rattle.std.specs.List.{range_with_len, flat_map}
use Rattle.std.specs.Option.{option_or}
use Rattle.tfm_words.specs.CountFaults.{first_fault}
use Rattle.tfm_words.specs.declared.numbers.Numbers.{Numbers}
use Rattle.tfm_words.specs.declared.table.Table.TheVariants.{CharInfo}
use Rattle.tfm_words.specs.Counts.{counts_of, AreCountsOf}
use Rattle.tfm_tables.specs.declared.fault.FontFault.{FontFault}
use Rattle.tfm_tables.specs.Table.{entries_of}
use Rattle.tfm_tables.specs.Acceptance.{codes_of}
use Rattle.tfm_words.proofs.FirstFault.{first_fault-append}

pub none_of_range : {F : Type 0} (rows : ℕ → List (Bool × F)) (a n : ℕ)
    → ((k : ℕ) → a ≤ k → k < a + n → first_fault (rows k) ≡ None) → first_fault (flat_map rows (range_with_len a n)) ≡ None
none_of_range rows a zero none = refl
none_of_range rows a (suc n) none =
    first_fault-append (rows a) (flat_map rows (range_with_len (a + 1) n))
    ∙ rw (none a (omega arith) (omega arith), none_of_range rows (a + 1) n (λ k low high. none k (omega arith) (omega arith))) refl

at_or_behind : {F : Type 0} (rows : ℕ → List (Bool × F)) (a i : ℕ) (f : F) (rest : Option F)
    → ((k : ℕ) → a ≤ k → k < i → first_fault (rows k) ≡ None) → first_fault (rows i) ≡ Some f
    → (a < i → rest ≡ Some f) → (a < i) ⊎ (i ≤ a) → a ≤ i → option_or (first_fault (rows a)) rest ≡ Some f
at_or_behind rows a i f rest before here later (inl behind) low = rw (before a (omega arith) behind) (later behind)
at_or_behind {F} rows a i f rest before here later (inr at) low =
    let e : i ≡ a = omega arith in
    let family : ℕ → Type 0 = λ j. first_fault (rows j) ≡ Some f in
    let found : first_fault (rows a) ≡ Some f = subst family e here in
    rw found refl

pub fault_in_range : {F : Type 0} (rows : ℕ → List (Bool × F)) (a n i : ℕ) (f : F)
    → a ≤ i → i < a + n → ((k : ℕ) → a ≤ k → k < i → first_fault (rows k) ≡ None) → first_fault (rows i) ≡ Some f
    → first_fault (flat_map rows (range_with_len a n)) ≡ Some f
fault_in_range rows a zero i f low high before here = absurd (omega arith)
fault_in_range rows a (suc n) i f low high before here =
    first_fault-append (rows a) (flat_map rows (range_with_len (a + 1) n))
    ∙ at_or_behind rows a i f (first_fault (flat_map rows (range_with_len (a + 1) n))) before here
    (λ behind. fault_in_range rows (a + 1) n i f (omega arith) (omega arith) (λ k low' high'. before k (omega arith) high') here)
    (cases_lt a i) low

-- ---- ranges from 0, and the sets of lemmas for the exits of loops

pub none_below : {F : Type 0} (rows : ℕ → List (Bool × F)) (n : ℕ)
    → ((k : ℕ) → k < n → first_fault (rows k) ≡ None) → first_fault (flat_map rows (range_with_len 0 n)) ≡ None
none_below rows n none = none_of_range rows 0 n (λ k low high. none k (omega arith))

pub fault_below : {F : Type 0} (rows : ℕ → List (Bool × F)) (n i : ℕ) (f : F)
    → i < n → ((k : ℕ) → k < i → first_fault (rows k) ≡ None) → first_fault (rows i) ≡ Some f
    → first_fault (flat_map rows (range_with_len 0 n)) ≡ Some f
fault_below rows n i f high before here = fault_in_range rows 0 n i f (omega arith) (omega arith) (λ k low high'. before k high') here

pub ruleset appended = (first_fault-append)

pub ruleset below = (none_below, fault_below)

pub ruleset ranges = (none_of_range, fault_in_range)

-- ---- the codes of a font

pub none_of_codes : (words : List ℕ) (rows : ℕ → List (Bool × FontFault)) (c : Numbers) → AreCountsOf words c
    → ((k : ℕ) → c.bc ≤ k → k < c.ec + 1 → first_fault (rows k) ≡ None) → first_fault (flat_map rows (codes_of words)) ≡ None
unfolding codes_of
none_of_codes words rows c are none =
    let bc : (counts_of words).bc ≡ c.bc = ap (λ (n : Numbers). n.bc) (sym are.value) in
    let ec : (counts_of words).ec ≡ c.ec = ap (λ (n : Numbers). n.ec) (sym are.value) in
    let lawful : (counts_of words).bc ≤ (counts_of words).ec + 1 = are.lawful.lawful.characters in
    none_of_range rows (counts_of words).bc (entries_of words CharInfo) (λ k low high. none k (omega arith) (omega arith))

pub fault_of_codes : (words : List ℕ) (rows : ℕ → List (Bool × FontFault)) (c : Numbers) (i : ℕ) (f : FontFault) → AreCountsOf words c
    → c.bc ≤ i → i < c.ec + 1 → ((k : ℕ) → c.bc ≤ k → k < i → first_fault (rows k) ≡ None) → first_fault (rows i) ≡ Some f
    → first_fault (flat_map rows (codes_of words)) ≡ Some f
unfolding codes_of
fault_of_codes words rows c i f are low high before here =
    let bc : (counts_of words).bc ≡ c.bc = ap (λ (n : Numbers). n.bc) (sym are.value) in
    let ec : (counts_of words).ec ≡ c.ec = ap (λ (n : Numbers). n.ec) (sym are.value) in
    fault_in_range rows (counts_of words).bc (entries_of words CharInfo) i f (omega arith) (omega arith)
    (λ k low' high'. before k (omega arith) high') here

pub ruleset codes = (none_of_codes, fault_of_codes)
