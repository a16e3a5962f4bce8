-- Jobs, place by place.
use Rattle.std.proofs.Common.{arith, ◌≡◌, ℕ, zero, suc, ◌+◌, ◌<◌, List, [], ◌∷◌, ◌++◌, length, get_or, take, subst}
use Rattle.std.specs.List.{AllZip}

next_place : {A B : Type 0} (P : A → B → Type 0) (xs : List A) (ys : List B) (i : ℕ) (x : A) (y : B) → i < length xs → x ≡ get_or xs i x
    → AllZip P (take i xs) ys → P x y → AllZip P (take (suc i) xs) (ys ++ y ∷ [])
next_place P [] ys i x y within at all one = absurd (omega (arith, within))
next_place P (z ∷ xs) [] zero x y within at all one = (subst (λ a. P a y) at one, tt)
next_place P (z ∷ xs) (w ∷ ys) zero x y within at all one = elim all [ ]
next_place P (z ∷ xs) [] (suc i) x y within at all one = elim all [ ]
next_place P (z ∷ xs) (w ∷ ys) (suc i) x y within at all one = (all.0, next_place P xs ys i x y (omega (arith, within)) at all.1 one)

-- one place more
pub place_more : {A B : Type 0} (P : A → B → Type 0) (xs : List A) (ys : List B) (i : ℕ) (x : A) (y : B) → i < length xs → x ≡ get_or xs i x
    → AllZip P (take i xs) ys → P x y → AllZip P (take (i + 1) xs) (ys ++ y ∷ [])
place_more P xs ys i x y within at all one =
    let next : suc i ≡ i + 1 = omega arith in
    subst (λ n. AllZip P (take n xs) (ys ++ y ∷ [])) next (next_place P xs ys i x y within at all one)
