-- Several lanes for one source whose endpoints were brought together again.
-- This project's own.
use Rattle.std.specs.Prelude.{◌≡◌, List, map, All, Some}
use Rattle.std.specs.Option.{option_map}
use Rattle.lanes.specs.Lane.{lane_end_of, pipeline}
use Rattle.lanes.specs.Ends.{IsLane, state_of}
use Rattle.lanes.specs.declared.making.Making.{Ghosts}
use Rattle.lanes.specs.declared.setter.Setter.{Setter}
use Rattle.lanes.specs.declared.ending.LaneEnd.{LaneEnd}
use Rattle.lanes.specs.declared.ending.LaneEnd.TheVariants.{GaveUp}
use Rattle.dealt_lanes.specs.Lanes.{AllThree}
use Rattle.dealt_lanes.specs.Dealt.{dealer_end, dealt, gathered, gatherer_end}
use Rattle.dealt_lanes.specs.declared.dealer.Dealer.{Dealer}
use Rattle.dealt_lanes.specs.declared.gatherer.Gatherer.{Gatherer}

module _ {M I O IS OS : Type 0} {ghosts : Ghosts M I O IS OS} where
  -- the dealer, the setters and the gatherer of the same lanes
  abbrev pub AreDealtLanes : Dealer I IS → List (Setter M I O IS OS ghosts) → Gatherer O OS → Type 0
  AreDealtLanes d setters g = AllThree IsLane d.feeders.items setters g.takers.items

  -- the maker of each setter makes this
  abbrev pub AllMake : (I → O) → List (Setter M I O IS OS ghosts) → Type 0
  AllMake makes setters = All (λ s. (state_of s).makes ≡ makes) setters

module _ {I O IS OS : Type 0} where
  -- the results that were gathered are those made of the first items that were dealt. If an end other than
  -- `GaveUp` was gathered, they are those of all items, and the end belongs to the end that the dealer was closed
  -- with
  pub record AreSettled (makes : I → O) (d : Dealer I IS) (g : Gatherer O OS) : Type 0 where
    pub results : pipeline makes (dealt d) (gathered g)
    pub whole : (end : LaneEnd) → gatherer_end g ≡ Some end → (end ≡ GaveUp → ⊥)
        → (option_map lane_end_of (dealer_end d) ≡ Some end) × (gathered g ≡ map makes (dealt d))
