-- The takers of a gatherer.
-- This project's own.
use Rattle.std.specs.Prelude.{◌≡◌, ℕ, List, map, get_or, set, true, All, IsSome, Option, None, is_some}
use Rattle.std.specs.List.{AllZip}
use Rattle.lanes.specs.Rings.{IsFirstOf}
use Rattle.lanes.specs.Ends.{SameTaker, hands_of, taken, taker_end}
use Rattle.lanes.specs.Takes.{Takes}
use Rattle.lanes.specs.declared.taker.Taker.{Taker}
use Rattle.lanes.specs.declared.took.Took.{Took}
use Rattle.lanes.specs.declared.ending.LaneEnd.{LaneEnd}
use Rattle.dealt_lanes.specs.InTurn.{AreInTurn, StopAt}

module _ {O OS : Type 0} where
  -- the results that were taken from each taker
  abbrev pub each_taken : List (Taker O OS) → List (List O)
  each_taken takers = map taken takers

  -- the takers of the same lanes
  abbrev pub SameTakers : List (Taker O OS) → List (Taker O OS) → Type 0
  SameTakers before after = AllZip SameTaker before after

  -- the results taken are in turn, up to the taker with this number, which is the next one. If an end was
  -- taken, it is the end of this taker, and more results may have been taken from the others
  abbrev pub AreGathered : Option LaneEnd → List (Taker O OS) → ℕ → Type 0
  AreGathered end takers turn =
      (end ≡ None → AreInTurn (each_taken takers) turn)
      × StopAt (each_taken takers) turn
      × (is_some end ≡ true → get_or (map taker_end takers) turn None ≡ end)

  -- the taker of the same lane, after some more results were taken and perhaps the end; a taker that had
  -- returned the end is unchanged
  abbrev pub IsDrained : Taker O OS → Taker O OS → Type 0
  IsDrained t u =
      SameTaker t u × IsFirstOf (taken t) (taken u) × (is_some (taker_end t) ≡ true → hands_of u ≡ hands_of t)

  -- each taker has returned the end of its lane
  abbrev pub HaveEnded : List (Taker O OS) → Type 0
  HaveEnded takers = All (λ t. IsSome (taker_end t)) takers

  -- the next result or the end of one taker was taken, and the other takers are unchanged
  abbrev pub IsTakenAt : (O → Type 0) → List (Taker O OS) → ℕ → Took O → List (Taker O OS) → Type 0
  IsTakenAt right before lane took after =
      (t : Taker O OS) × (u : Taker O OS) × (t ≡ get_or before lane t) × (after ≡ set before lane u)
      × Takes right (hands_of t) took (hands_of u)
