-- The calls of `next_item` of a source: the items that they returned, one after the other, and the end.
-- This project's own.
use Rattle.std.specs.Prelude.{◌≡◌, List, [], ◌∷◌, ◌++◌, Option, Some, None, Result, Ok, Err}
use Rattle.lanes.specs.declared.ending.SourceEnd.{SourceEnd}
use Rattle.lanes.specs.declared.ending.SourceEnd.TheVariants.{Complete, Failed}
use Rattle.lanes.specs.declared.fault.SourceFault.{SourceFault}

module _ {S I : Type 0} (gives : S → Result (Option I) SourceFault → S → Type 0) where
  -- the source returned these items, by one call after the other
  abbrev pub HasReturned : S → List I → S → Type 0
  HasReturned before [] after = after ≡ before
  HasReturned before (item ∷ items) after =
      (now : S) × gives before (Ok (Some item)) now × HasReturned now items after

  -- the source returned this end, if there is one
  abbrev pub HasEnded : S → Option SourceEnd → S → Type 0
  HasEnded before None after = after ≡ before
  HasEnded before (Some Complete) after = gives before (Ok None) after
  HasEnded before (Some (Failed fault)) after = gives before (Err fault) after

  -- the source returned these items, and then this end, if there is one
  abbrev pub WasRead : S → List I → Option SourceEnd → S → Type 0
  WasRead before items end after = (now : S) × HasReturned before items now × HasEnded now end after

  -- these items were fed, with this end, if there is one: they are all that the source returned, and the end is
  -- that of the source. If there is no end, the source may have returned more
  abbrev pub IsFedFrom : Option SourceEnd → List I → S → S → Type 0
  IsFedFrom end items before after =
      (more : List I) × (last : Option SourceEnd) × WasRead before (items ++ more) last after
      × ((fed_end : SourceEnd) → end ≡ Some fed_end → (more ≡ []) × (last ≡ Some fed_end))
