-- The name of each ligature operation in the text of pairs is the name that a listing has.
use Rattle.std.proofs.Common.{◌≡◌, ℕ, List, [], ◌∷◌, map, refl}
use Rattle.lig_kern.specs.Matching.{ligature_by, operation_of}
use Rattle.font_texts.specs.ListingFields.{operation_name}
use Rattle.font_texts.specs.PairsText.{action_name}

-- the op codes of the operations, and 4, which isn't listed
abbrev op_codes : List ℕ
op_codes = 0 ∷ 1 ∷ 2 ∷ 3 ∷ 4 ∷ 5 ∷ 6 ∷ 7 ∷ 11 ∷ []

have_listed_names : map (λ op. action_name (ligature_by (operation_of op) 0)) op_codes ≡ map operation_name op_codes
unfolding action_name operation_name operation_of
have_listed_names = refl
