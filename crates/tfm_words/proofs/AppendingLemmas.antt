-- What stays at the front of a list to which items are appended.
use Rattle.std.proofs.Common.{◌≡◌, ℕ, suc, zero, ◌≤◌, List, [], ◌∷◌, ◌++◌, length, take, arith, refl, ap, sym, ◌∙◌}
use Rattle.std.proofs.Math.Seq.{take-append_seam, take-length}
use Rattle.std.proofs.lemmas.List.{length-take}
use Rattle.tfm_words.specs.Appending.{StaysInFront}

module _ {T : Type 0} where
  pub front_at_once : (xs : List T) → StaysInFront xs xs
  front_at_once xs = take-length xs

  pub front_of_append : (xs ys zs : List T) → zs ≡ xs ++ ys → StaysInFront xs zs
  front_of_append xs ys zs e = rw e (take-append_seam xs ys)

  take_shorter : (n m : ℕ) (zs : List T) → n ≤ m → take n (take m zs) ≡ take n zs
  take_shorter zero m zs h = refl
  take_shorter (suc n) zero zs h = absurd (omega arith)
  take_shorter (suc n) (suc m) [] h = refl
  take_shorter (suc n) (suc m) (z ∷ zs) h = ap (λ more. z ∷ more) (take_shorter n m zs (omega arith))

  pub front_through : (xs ys zs : List T) → StaysInFront xs ys → StaysInFront ys zs → StaysInFront xs zs
  front_through xs ys zs a b =
      let short : length xs ≤ length ys = omega (arith, length-take (length xs) ys, ap length a) in
      let through : take (length xs) (take (length ys) zs) ≡ take (length xs) zs = take_shorter (length xs) (length ys) zs short in
      sym through ∙ ap (take (length xs)) b ∙ a

pub ruleset fronts = (front_at_once, front_of_append, front_through)
