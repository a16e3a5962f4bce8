-- The feeders, setters and takers of several lanes, lane by lane.
-- This project's own.
use Rattle.std.specs.Prelude.{◌≡◌, ◌<◌, ℕ, List, [], length, get_or, Some, None}
use Rattle.lanes.specs.Lane.{pipeline}
use Rattle.lanes.specs.Turns.{fresh}
use Rattle.lanes.specs.Settled.{IsSettled}
use Rattle.lanes.specs.Ends.{IsLane, fed, feeder_end, state_of, taken, taker_end}
use Rattle.lanes.specs.declared.making.Making.{Ghosts}
use Rattle.lanes.specs.declared.feeder.Feeder.{Feeder}
use Rattle.lanes.specs.declared.setter.Setter.{Setter}
use Rattle.lanes.specs.declared.taker.Taker.{Taker}
use Rattle.lanes.specs.declared.ending.LaneEnd.{LaneEnd}
use Rattle.lanes.specs.declared.ending.LaneEnd.TheVariants.{GaveUp}

module _ {A B C : Type 0} where
  -- a property of the three elements at this index of three lists
  abbrev pub HoldsAt : (A → B → C → Type 0) → List A → List B → List C → ℕ → Type 0
  HoldsAt P as' bs cs i =
      (a : A) × (b : B) × (c : C) × (a ≡ get_or as' i a) × (b ≡ get_or bs i b) × (c ≡ get_or cs i c) × P a b c

  -- a property of the three elements at each index of three lists of the same length
  abbrev pub AllThree : (A → B → C → Type 0) → List A → List B → List C → Type 0
  AllThree P as' bs cs =
      (length bs ≡ length as') × (length cs ≡ length as') × ((i : ℕ) → i < length as' → HoldsAt P as' bs cs i)

module _ {M I O IS OS : Type 0} {ghosts : Ghosts M I O IS OS} where
  -- the endpoints of a new lane, whose maker makes this: nothing was fed, sent or taken, and the feeder isn't
  -- closed
  abbrev pub IsNew : (I → O) → Feeder I IS → Setter M I O IS OS ghosts → Taker O OS → Type 0
  IsNew makes f s t =
      IsLane f s t × ((fed f ≡ []) × (feeder_end f ≡ None)) × (state_of s ≡ fresh makes) × (taken t ≡ [])

  -- the endpoints of a lane that were brought together: the results taken are those of the first items fed. If an
  -- end other than `GaveUp` was taken, the lane is finished with this end
  pub record IsMet (f : Feeder I IS) (s : Setter M I O IS OS ghosts) (t : Taker O OS) : Type 0 where
    pub results : pipeline (state_of s).makes (fed f) (taken t)
    pub ended : (end : LaneEnd) → taker_end t ≡ Some end → (end ≡ GaveUp → ⊥) → IsSettled f s t end
