-- The first error of a list of rows: for two lists joined, and for a list in which no condition holds.
use Rattle.std.proofs.Common.{◌≡◌, Bool, true, false, List, [], ◌∷◌, ◌++◌, None, refl}
use Rattle.std.specs.List.{AllByRecursion}
use Rattle.std.specs.Option.{option_or}
use Rattle.tfm_words.specs.CountFaults.{first_fault}

-- the condition of no row holds
abbrev pub AllPassed : {F : Type 0} → List (Bool × F) → Type 0
AllPassed rows = AllByRecursion (λ row. row.0 ≡ false) rows

pub first_fault-append : {F : Type 0} (xs ys : List (Bool × F)) → first_fault (xs ++ ys) ≡ option_or (first_fault xs) (first_fault ys)
first_fault-append [] ys = refl
first_fault-append ((true, f) ∷ xs) ys = refl
first_fault-append ((false, f) ∷ xs) ys = first_fault-append xs ys

pub passed_of_none : {F : Type 0} (rows : List (Bool × F)) → first_fault rows ≡ None → AllPassed rows
passed_of_none [] e = tt
passed_of_none ((true, f) ∷ rows) e = cc
passed_of_none ((false, f) ∷ rows) e = (refl, passed_of_none rows e)

pub none_of_passed : {F : Type 0} (rows : List (Bool × F)) → AllPassed rows → first_fault rows ≡ None
none_of_passed [] passed = refl
none_of_passed ((true, f) ∷ rows) passed = let bad : true ≡ false = passed.0 in cc
none_of_passed ((false, f) ∷ rows) passed = none_of_passed rows passed.1
