-- The feeders of a dealer.
-- This project's own.
use Rattle.std.specs.Prelude.{◌≡◌, ◌++◌, ℕ, List, [], ◌∷◌, map, get_or, set, true, All, IsSome, Option, None, is_some}
use Rattle.std.specs.List.{AllZip}
use Rattle.lanes.specs.Ends.{SameFeeder, fed, feeder_end}
use Rattle.lanes.specs.declared.feeder.Feeder.{Feeder}
use Rattle.lanes.specs.declared.offer_fault.OfferFault.{OfferFault}
use Rattle.lanes.specs.declared.offer_fault.OfferFault.TheVariants.{Closed, NoRoom}
use Rattle.lanes.specs.declared.ending.SourceEnd.{SourceEnd}

module _ {I IS : Type 0} where
  -- the items that were fed to each feeder
  abbrev pub each_fed : List (Feeder I IS) → List (List I)
  each_fed feeders = map fed feeders

  -- the feeders of the same lanes
  abbrev pub SameFeeders : List (Feeder I IS) → List (Feeder I IS) → Type 0
  SameFeeders before after = AllZip SameFeeder before after

  -- each feeder that is closed has this end; there is none if the end is `None`
  abbrev pub HaveEnd : Option SourceEnd → List (Feeder I IS) → Type 0
  HaveEnd end feeders = All (λ f. is_some (feeder_end f) ≡ true → feeder_end f ≡ end) feeders

  -- each feeder is closed
  abbrev pub AreClosed : List (Feeder I IS) → Type 0
  AreClosed feeders = All (λ f. IsSome (feeder_end f)) feeders

  -- an item was fed to one feeder, and the others are unchanged
  abbrev pub IsFedAt : List (Feeder I IS) → ℕ → I → List (Feeder I IS) → Type 0
  IsFedAt before lane item after =
      (f : Feeder I IS) × (g : Feeder I IS) × (f ≡ get_or before lane f) × (fed g ≡ fed f ++ item ∷ []) × (after ≡ set before lane g)

module _ {I : Type 0} where
  -- the error that returns an item: `Closed` if there is an end, otherwise `NoRoom`
  abbrev pub IsReturned : Option SourceEnd → I → OfferFault I → Type 0
  IsReturned end item (Closed back) = IsSome end × (back ≡ item)
  IsReturned end item (NoRoom back) = (end ≡ None) × (back ≡ item)
