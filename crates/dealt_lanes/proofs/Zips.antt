-- Lists that are related element by element, and one element that changes.
use Rattle.std.proofs.Common.{arith, ◌≡◌, ℕ, zero, suc, ◌<◌, List, [], ◌∷◌, length, map, get_or, subst, ap, refl, sym, ◌∙◌}
use Rattle.std.proofs.lemmas.List.{get_or-map}
use Rattle.std.specs.Prelude.{set}
use Rattle.std.specs.List.{AllZip}

module _ {A : Type 0} where
  pub zip_refl : (R : A → A → Type 0) → ((x : A) → R x x) → (xs : List A) → AllZip R xs xs
  zip_refl R same [] = tt
  zip_refl R same (x ∷ xs) = (same x, zip_refl R same xs)

  -- one element goes on to a related one, in a list that is related to another
  pub zip_change : (R : A → A → Type 0) → ((x y z : A) → R x y → R y z → R x z) → (xs ys : List A) (i : ℕ) (old new : A)
      → old ≡ get_or ys i old → i < length ys → AllZip R xs ys → R old new → AllZip R xs (set ys i new)
  zip_change R join [] [] i old new at below a b = absurd (omega (arith, below))
  zip_change R join (x ∷ xs) [] i old new at below a b = elim a [ ]
  zip_change R join [] (y ∷ ys) i old new at below a b = elim a [ ]
  zip_change R join (x ∷ xs) (y ∷ ys) zero old new at below a b = (join x y new a.0 (subst (λ o. R o new) at b), a.1)
  zip_change R join (x ∷ xs) (y ∷ ys) (suc i) old new at below a b = (a.0, zip_change R join xs ys i old new at (omega (arith, below)) a.1 b)

  -- one element goes on to a related one
  pub zip_set : (R : A → A → Type 0) → ((x : A) → R x x) → (xs : List A) (i : ℕ) (old new : A) → old ≡ get_or xs i old → R old new
      → AllZip R xs (set xs i new)
  zip_set R same [] i old new at r = tt
  zip_set R same (x ∷ xs) zero old new at r = (subst (λ o. R o new) at r, zip_refl R same xs)
  zip_set R same (x ∷ xs) (suc i) old new at r = (same x, zip_set R same xs i old new at r)

module _ {A B : Type 0} where
  pub map_at : (f : A → B) (xs : List A) (i : ℕ) (x : A) (other : B) → i < length xs → x ≡ get_or xs i x → get_or (map f xs) i other ≡ f x
  map_at f xs i x other below at = get_or-map f xs i x other below ∙ ap f (sym at)

  -- an element changes, but what is read of it doesn't
  pub map_kept : (f : A → B) (xs : List A) (i : ℕ) (old new : A) → old ≡ get_or xs i old → f new ≡ f old → map f (set xs i new) ≡ map f xs
  map_kept f [] i old new at same = refl
  map_kept f (x ∷ xs) zero old new at same = ap (λ y. y ∷ map f xs) (same ∙ ap f at)
  map_kept f (x ∷ xs) (suc i) old new at same = ap (λ ys. f x ∷ ys) (map_kept f xs i old new at same)
