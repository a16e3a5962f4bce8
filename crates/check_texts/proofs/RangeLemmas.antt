-- Lemmas about warnings and tests over a range of numbers.
use Rattle.std.proofs.Common.{◌≡◌, ℕ, zero, suc, ◌+◌, Bool, false, ◌||◌, List, [], ◌∷◌, ◌++◌, ◌∙◌, flat_map, refl, ap, arith, add-one}
use Rattle.std.proofs.Math.Bool.{or-false}
use Rattle.std.specs.Option.{option_and_then}
use Rattle.std.specs.Prelude.{Option}
use Rattle.std.proofs.lemmas.Grind.{flat_map-append}
use Rattle.std.proofs.lemmas.List.{append-nil, append_assoc}
use Rattle.std.proofs.lemmas.List.Folds.{list_any-append}
use Rattle.std.specs.List.{range_with_len, list_any}
use Rattle.check_texts.specs.declared.warning.Warning.{Warning}
use Rattle.check_texts.specs.Warnings.{any_from, larger_after, larger_of, listed, warnings_below}

pub ruleset joined = (append_assoc, append-nil)

range_more : (a n j : ℕ) → a + n ≡ j → range_with_len a (suc n) ≡ range_with_len a n ++ j ∷ []
range_more a zero j e = let same : a ≡ j = omega arith in rw same refl
range_more a (suc n) j e = ap (λ rest. a ∷ rest) (range_more (a + 1) n j (omega arith))

-- the warnings of one more number
pub below_more : (warning : ℕ → Option Warning) (n : ℕ) → warnings_below warning (n + 1) ≡ warnings_below warning n ++ listed (warning n)
unfolding warnings_below
below_more warning n =
    let of : ℕ → List Warning = λ i. listed (warning i) in
    rw add-one
    (ap (flat_map of) (range_more 0 n n (omega arith))
    ∙ (flat_map-append of (range_with_len 0 n) (n ∷ [])
    ∙ ap (λ last. flat_map of (range_with_len 0 n) ++ last) (append-nil (of n))))

-- no number has no warnings
pub below_none : (warning : ℕ → Option Warning) → warnings_below warning 0 ≡ []
unfolding warnings_below
below_none warning = refl

pub ruleset more = (below_more, below_none, append_assoc, append-nil)

-- whether one more number passes a test
pub any_more : (test : ℕ → Bool) (n : ℕ) → any_from test 1 (n + 1) ≡ (any_from test 1 n || test (n + 1))
unfolding any_from
any_more test n =
    rw add-one
    (ap (list_any test) (range_more 1 n (suc n) (omega arith))
    ∙ (list_any-append test (range_with_len 1 n) (suc n ∷ [])
    ∙ ap (λ last. list_any test (range_with_len 1 n) || last) (or-false (test (suc n)))))

-- no number of an empty range passes a test
pub any_none : (test : ℕ → Bool) → any_from test 1 0 ≡ false
unfolding any_from
any_none test = refl

-- one step more
pub step_more : (words : List ℕ) (code steps : ℕ) → larger_after words code (steps + 1) ≡ option_and_then (larger_of words) (larger_after words code steps)
step_more words code steps = rw add-one refl

pub ruleset any = (any_more, any_none, step_more)
