-- The state of a source: the items that are still to come, if these are known, and the error of the source,
-- if it has failed; and how a call that returns the next item changes this state.
-- This project's own.
use Rattle.std.specs.Prelude.{◌≡◌, ◌≤◌, ℕ, List, [], ◌∷◌, ◌++◌, length, Option, Some, None, Result, Ok, Err, ⊤}
use Rattle.lanes.specs.Messages.{first_end}
use Rattle.lanes.specs.declared.fault.SourceFault.{SourceFault}

module _ {I : Type 0} where
  -- this item was the first of those to come, and the others remain; nothing is stated if these aren't known
  abbrev pub GivesNext : I → Option (List I) → Option (List I) → Type 0
  GivesNext item (Some []) after = ⊥
  GivesNext item (Some (next ∷ rest)) after = (item ≡ next) × (after ≡ Some rest)
  GivesNext item None after = ⊤

  -- no item was to come before, and none is to come after; nothing is stated if the items aren't known
  abbrev pub HasNoMore : Option (List I) → Option (List I) → Type 0
  HasNoMore (Some items) after = (items ≡ []) × (after ≡ Some [])
  HasNoMore None after = ⊤

  -- a call that returns the next item: the items to come and the error before it, the return value, the items to come
  -- and the error after it. Only a source that hasn't failed returns an item or `None`, and it hasn't failed
  -- afterwards. An error is permanent, and nothing is stated about the items then
  abbrev pub Reads : Option (List I) → Option SourceFault → Result (Option I) SourceFault → Option (List I) → Option SourceFault → Type 0
  Reads before failed (Ok (Some item)) after fails = (failed ≡ None) × (fails ≡ None) × GivesNext item before after
  Reads before failed (Ok None) after fails = (failed ≡ None) × (fails ≡ None) × HasNoMore before after
  Reads before failed (Err fault) after fails = (fails ≡ Some fault) × (first_end failed (Some fault) ≡ Some fault)

module _ {S I : Type 0} where
  -- the same for a source, before and after the call
  abbrev pub gives_known : (S → Option (List I)) → (S → Option SourceFault) → S → Result (Option I) SourceFault → S → Type 0
  gives_known to_come failed before result after = Reads (to_come before) (failed before) result (to_come after) (failed after)

module _ {I : Type 0} where
  -- the first of the items that were to come were returned, at least this many, and the others remain; nothing
  -- is stated if the items aren't known
  abbrev pub HasGiven : ℕ → Option (List I) → Option (List I) → Type 0
  HasGiven least (Some items) after =
      (given : List I) × (rest : List I) × (least ≤ length given) × (items ≡ given ++ rest) × (after ≡ Some rest)
  HasGiven least None after = ⊤
