-- The results of the levels that start the threads: the gatherers and the collector, and the closed lanes.
-- This project's own.
use Rattle.std.specs.Prelude.{◌≡◌, ℕ, ◌+◌, List, [], length, map, All, Option, Result, IsSome, IsTrue, is_none}
use Rattle.std.specs.List.{AllZip}
use Rattle.lanes.specs.declared.fault.SourceFault.{SourceFault}
use Rattle.batch.specs.Events.{Event}
use Rattle.batch.specs.Collecting.{AllLanes, IsFreshTaker, IsToldFirst, SameLane, TellsLanes}
use Rattle.batch.specs.Closed.{AreBack, AreClosedOf, HasNoOthers}
use Rattle.batch.specs.declared.collector.Refusal.{Refusal}
use Rattle.batch.specs.declared.collecting.collector_thread.Collected.{Collected}
use Rattle.batch.specs.declared.collecting.lane_taker.LaneTaker.{LaneTaker}
use Rattle.batch.specs.declared.run_end.ClosedLane.{ClosedLane}

module _ {C R RS : Type 0} where
  -- the result of the collection from these gatherers: each is of the same lanes, the collector has
  -- received what was taken, each lane has ended unless something was refused, and this is the refusal of the
  -- collector
  pub record Collects (places : C → ℕ) (given : C → List (Event R) → Type 0) (refused : C → Option Refusal → Type 0) (lanes : List (LaneTaker R RS)) (before : C) (back : Collected C R RS) : Type 0 where
    pub places_kept : places back.collector ≡ places before
    pub same : AllZip SameLane lanes back.lanes.items
    pub told : TellsLanes given lanes before (is_none back.refusal) back.lanes.items back.collector
    pub whole : IsTrue (is_none back.refusal) → All (λ lane. IsSome lane.end) back.lanes.items
    pub refuses : refused back.collector back.refusal

module _ {S M I R O C RS : Type 0} where
  -- the result of the levels of these sources: the gatherers of the others, the closed lanes of the
  -- sources, and the collector. If the collector had received nothing and nothing had been taken before, the
  -- events that it has received agree with these lanes and are of no others. Each lane has ended unless
  -- something was refused, and each closed lane has its source
  pub record Gathers (gives : S → Result (Option I) SourceFault → S → Type 0) (makes : M → I → R) (origin : S → O) (places : C → ℕ)
      (given : C → List (Event R) → Type 0) (refused : C → Option Refusal → Type 0) (sources : List (S × M)) (lanes : List (LaneTaker R RS)) (before : C) (closed : List (ClosedLane S))
      (back : Collected C R RS) : Type 0 where
    pub places_kept : places back.collector ≡ places before
    pub same : AllZip SameLane lanes back.lanes.items
    pub told : given before [] → All IsFreshTaker lanes
        → (events : List (Event R)) × given back.collector events × AllLanes IsToldFirst (length sources) events back.lanes.items
        × AreClosedOf gives makes events 0 sources closed × HasNoOthers events (length sources + length lanes)
    pub ended : IsTrue (is_none back.refusal) → All (λ lane. IsSome lane.end) back.lanes.items
    pub whole : IsTrue (is_none back.refusal) → All (λ lane. IsSome lane.end) closed
    pub refuses : refused back.collector back.refusal
    pub own_sources : AreBack origin sources (map (λ lane. lane.source) closed)
