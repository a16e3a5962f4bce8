-- The gatherers of the sources' lanes, compared with the events of these lanes that a collector has received.
-- This project's own.
use Rattle.std.specs.Prelude.{◌≡◌, ◌≤◌, ℕ, ◌+◌, Bool, true, false, List, [], ◌∷◌, length, None, Some, IsSome, is_some}
use Rattle.lanes.specs.Rings.{IsFirstOf}
use Rattle.lanes.specs.declared.ending.LaneEnd.TheVariants.{GaveUp}
use Rattle.dealt_lanes.specs.Takers.{HaveEnded}
use Rattle.dealt_lanes.specs.Dealt.{SameGatherer, gathered, gatherer_end}
use Rattle.batch.specs.Events.{Event, LaneEvent, answers_among, lane_events, of_lane}
use Rattle.batch.specs.declared.collecting.lane_taker.LaneTaker.{LaneTaker}

module _ {O OS : Type 0} where
  -- the gatherer of the same lanes
  abbrev pub SameLane : LaneTaker O OS → LaneTaker O OS → Type 0
  SameLane a b = SameGatherer a.gatherer b.gatherer

  -- nothing was taken from the lane yet
  abbrev pub IsFreshTaker : LaneTaker O OS → Type 0
  IsFreshTaker t = (gathered t.gatherer ≡ []) × (gatherer_end t.gatherer ≡ None) × (t.end ≡ None)

  -- nothing is left to be taken: the collector has received the end, and if a lane was abandoned, each lane of the
  -- source has returned its end
  abbrev pub IsOver : LaneTaker O OS → Type 0
  IsOver t = IsSome t.end × (t.end ≡ Some GaveUp → HaveEnded t.gatherer.takers.items)

  -- these events of a lane are all results that were taken, and the end if it was taken
  abbrev pub IsTold : List (LaneEvent O) → LaneTaker O OS → Type 0
  IsTold told t = (told ≡ lane_events (gathered t.gatherer) t.end) × (t.end ≡ gatherer_end t.gatherer)

  -- these events of a lane are the first of the results that were taken; all of them, and then the end, if the
  -- lane has ended
  abbrev pub IsToldFirst : List (LaneEvent O) → LaneTaker O OS → Type 0
  IsToldFirst told t =
      (told ≡ lane_events (answers_among told) t.end)
      × IsFirstOf (answers_among told) (gathered t.gatherer)
      × (is_some t.end ≡ true → (answers_among told ≡ gathered t.gatherer) × (t.end ≡ gatherer_end t.gatherer))

  -- `IsTold` if nothing was refused, otherwise `IsToldFirst`
  abbrev pub IsToldBy : Bool → List (LaneEvent O) → LaneTaker O OS → Type 0
  IsToldBy true told t = IsTold told t
  IsToldBy false told t = IsToldFirst told t

  -- a property of each lane and its events; the first lane has this number, and each later one the next number
  abbrev pub AllLanes : (List (LaneEvent O) → LaneTaker O OS → Type 0) → ℕ → List (Event O) → List (LaneTaker O OS) → Type 0
  AllLanes P first events [] = Unit {0}
  AllLanes P first events (t ∷ ts) = P (of_lane first events) t × AllLanes P (first + 1) events ts

module _ {O : Type 0} where
  -- the events of lanes other than this one are unchanged
  abbrev pub SameOthers : ℕ → List (Event O) → List (Event O) → Type 0
  SameOthers lane before after = (other : ℕ) → (other ≡ lane → ⊥) → of_lane other after ≡ of_lane other before

  -- the events of lanes with this number or a larger one are unchanged
  abbrev pub SameFrom : ℕ → List (Event O) → List (Event O) → Type 0
  SameFrom lanes before after = (other : ℕ) → lanes ≤ other → of_lane other after ≡ of_lane other before

module _ {C O OS : Type 0} where
  -- a collector has received what was taken from one lane, except for a last result or end if that was
  -- refused
  abbrev pub TellsLane : (C → List (Event O) → Type 0) → ℕ → LaneTaker O OS → C → Bool → LaneTaker O OS → C → Type 0
  TellsLane given lane t before ok t' after =
      (events : List (Event O)) → given before events → IsTold (of_lane lane events) t
      → (events' : List (Event O)) × given after events' × SameOthers lane events events' × IsToldBy ok (of_lane lane events') t'

  -- a collector has received what was taken from all lanes, except for a last result or end if that was
  -- refused
  abbrev pub TellsLanes : (C → List (Event O) → Type 0) → List (LaneTaker O OS) → C → Bool → List (LaneTaker O OS) → C → Type 0
  TellsLanes given ts before ok ts' after =
      (events : List (Event O)) → given before events → AllLanes IsTold 0 events ts
      → (events' : List (Event O)) × given after events' × SameFrom (length ts) events events' × AllLanes (IsToldBy ok) 0 events' ts'
