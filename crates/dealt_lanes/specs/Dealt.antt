-- The endpoints of several lanes for one source: the items dealt, and the results gathered.
-- This project's own.
use Rattle.std.specs.Prelude.{◌≡◌, ◌++◌, ◌∷◌, [], ℕ, List, length, Option, Some, None}
use Rattle.lanes.specs.Messages.{first_end}
use Rattle.lanes.specs.declared.ending.SourceEnd.{SourceEnd}
use Rattle.lanes.specs.declared.ending.LaneEnd.{LaneEnd}
use Rattle.lanes.specs.declared.took.Took.{Took}
use Rattle.lanes.specs.declared.took.Took.TheVariants.{Nothing, Answer, End}
use Rattle.dealt_lanes.specs.InTurn.{in_turn}
use Rattle.dealt_lanes.specs.Feeders.{SameFeeders, each_fed}
use Rattle.dealt_lanes.specs.Takers.{SameTakers, each_taken}
use Rattle.dealt_lanes.specs.declared.dealer.Dealer.{Dealer}
use Rattle.dealt_lanes.specs.declared.gatherer.Gatherer.{Gatherer}

-- ---- the dealer

module _ {I IS : Type 0} where
  -- the items that were dealt: those of the feeders, in turn
  abbrev pub dealt : Dealer I IS → List I
  dealt d = in_turn (each_fed d.feeders.items)

  -- the end that the dealer was closed with
  abbrev pub dealer_end : Dealer I IS → Option SourceEnd
  dealer_end d = d.end

  -- the number of lanes
  abbrev pub dealer_lanes : Dealer I IS → ℕ
  dealer_lanes d = length d.feeders.items

  -- the number of the lane that the next item is dealt to
  abbrev pub dealer_turn : Dealer I IS → ℕ
  dealer_turn d = d.turn

  -- a dealer of the same lanes
  abbrev pub SameDealer : Dealer I IS → Dealer I IS → Type 0
  SameDealer d e = SameFeeders d.feeders.items e.feeders.items

  -- the items dealt, the lane in turn and the end are as before
  abbrev pub IsAsDealt : Dealer I IS → Dealer I IS → Type 0
  IsAsDealt d e =
      (dealt e ≡ dealt d) × (dealer_turn e ≡ dealer_turn d) × (dealer_end e ≡ dealer_end d)

  -- an item was dealt by a dealer that isn't closed
  abbrev pub IsDealt : Dealer I IS → I → Dealer I IS → Type 0
  IsDealt d item e = (dealer_end d ≡ None) × (dealt e ≡ dealt d ++ item ∷ [])

-- ---- the gatherer

module _ {O OS : Type 0} where
  -- the results that were gathered: those of the takers, in turn
  abbrev pub gathered : Gatherer O OS → List O
  gathered g = in_turn (each_taken g.takers.items)

  -- the end that was gathered
  abbrev pub gatherer_end : Gatherer O OS → Option LaneEnd
  gatherer_end g = g.end

  -- a gatherer of the same lanes
  abbrev pub SameGatherer : Gatherer O OS → Gatherer O OS → Type 0
  SameGatherer g h = SameTakers g.takers.items h.takers.items

  -- the return value of `take`: nothing; the next result, which is right; or the end, which is the one that was
  -- gathered before, if any
  abbrev pub Gathers : (O → Type 0) → Gatherer O OS → Took O → Gatherer O OS → Type 0
  Gathers right g Nothing h = (gatherer_end g ≡ None) × (gatherer_end h ≡ None) × (gathered h ≡ gathered g)
  Gathers right g (Answer answer) h =
      right answer × (gatherer_end g ≡ None) × (gatherer_end h ≡ None) × (gathered h ≡ gathered g ++ answer ∷ [])
  Gathers right g (End end) h =
      (first_end (gatherer_end g) (Some end) ≡ Some end) × (gatherer_end h ≡ Some end) × (gathered h ≡ gathered g)
