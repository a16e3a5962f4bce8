-- The slots of a message: its first item is removed.
use Rattle.std.proofs.Common.{◌≡◌, ◌≤◌, ◌<◌, List, [], ◌∷◌, length, Option, Some, None, refl, arith}
use Rattle.std.specs.Prelude.{remove, slice_index_or}
use Rattle.run_plan.specs.Held.{held, AreFull}

module _ {T : Type 0} where
  held_few : (slots : List (Option T)) → length (held slots) ≤ length slots
  held_few [] = omega arith
  held_few (None ∷ slots) = let few = held_few slots in omega (arith, few)
  held_few (Some item ∷ slots) = let few = held_few slots in omega (arith, few)

  -- the first slot has an item, and the others have the items after it
  pub first_out : (slots : List (Option T)) (first : Option T) → 0 < length slots → AreFull slots → first ≡ slice_index_or slots 0 first
      → AreFull (remove slots 0) × ((item : T) × (first ≡ Some item) × (held slots ≡ item ∷ held (remove slots 0)))
  first_out [] first some full is = absurd (omega (arith, some))
  first_out (None ∷ slots) first some full is = let few = held_few slots in absurd (omega (arith, few, full))
  first_out (Some item ∷ slots) first some full is = (omega (arith, full), (item, is, refl))
