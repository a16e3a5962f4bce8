-- Lemmas on names and their bytes.
use Rattle.std.proofs.Common.{◌≡◌, suc, ℕ, ◌+◌, ◌<◌, true, false, List, ◌∷◌, length, drop, get_or, Some, Bor, refl, sym, ◌∙◌, ap, add-one}
use Rattle.std.proofs.Math.Seq.{drop-cons}
use Rattle.std.specs.Str.{bytes_eq}
use Rattle.tfm_requests.specs.Known.{bytes_in}

module _ (files : List (Bor (List ℕ) × Bor (List ℕ))) (i : ℕ) (d : Bor (List ℕ) × Bor (List ℕ)) (name : List ℕ) (within : i < length files) (at : d ≡ get_or files i d) where
  from_here : drop i files ≡ d ∷ drop (i + 1) files
  from_here = rw (← add-one) at (drop-cons files i d within ∙ ap (λ file. file ∷ drop (suc i) files) (sym at))

  -- the file at this place has the name
  pub found : bytes_eq d.0.now name ≡ true → bytes_in (drop i files) name ≡ Some d.1.now
  found is = ap (λ l. bytes_in l name) from_here ∙ rw is refl

  -- the file at this place has another name
  pub passed : bytes_eq d.0.now name ≡ false → bytes_in (drop i files) name ≡ bytes_in (drop (i + 1) files) name
  passed is = ap (λ l. bytes_in l name) from_here ∙ rw is refl
