-- The closed lanes of a batch: their results, compared with the items that their sources have returned.
-- This project's own.
use Rattle.std.specs.Prelude.{◌≡◌, ◌≤◌, ℕ, ◌+◌, List, [], ◌∷◌, ◌++◌, length, map, All, Option, Some, None, Result, IsSome}
use Rattle.lanes.specs.declared.fault.SourceFault.{SourceFault}
use Rattle.lanes.specs.declared.ending.SourceEnd.{SourceEnd}
use Rattle.lanes.specs.declared.ending.SourceEnd.TheVariants.{Complete as SourceComplete, Failed}
use Rattle.lanes.specs.declared.ending.LaneEnd.TheVariants.{Complete, SourceFailed}
use Rattle.batch.specs.Calls.{WasRead}
use Rattle.batch.specs.Events.{Event, answers_in, lane_events, of_lane}
use Rattle.batch.specs.declared.run_end.ClosedLane.{ClosedLane}
use Rattle.batch.specs.declared.run_end.RunEnd.{RunEnd}

module _ {S I O : Type 0} where
  -- a closed lane with these results agrees with its source, which is given as it was at the call: the source
  -- returned some items and perhaps an end, and the results are made of the first of these items. If the lane is
  -- complete, or ended with an error of the source, they are made of all items, and the source returned its end, or
  -- this error
  pub record IsClosedOf (gives : S → Result (Option I) SourceFault → S → Type 0) (makes : I → O) (source : S) (results : List O) (lane : ClosedLane S) : Type 0 where
    pub items : List I
    pub more : List I
    pub last : Option SourceEnd
    pub made : results ≡ map makes items
    pub read : WasRead gives source (items ++ more) last lane.source
    pub complete : lane.end ≡ Some Complete → (more ≡ []) × (last ≡ Some SourceComplete)
    pub failed : (fault : SourceFault) → lane.end ≡ Some (SourceFailed fault) → (more ≡ []) × (last ≡ Some (Failed fault))

module _ {O : Type 0} where
  -- there are no events of lanes with this number or a larger one
  abbrev pub HasNoOthers : List (Event O) → ℕ → Type 0
  HasNoOthers events lanes = (lane : ℕ) → lanes ≤ lane → of_lane lane events ≡ []

module _ {A S O : Type 0} (agrees : ℕ → A → List O → ClosedLane S → Type 0) where
  -- the closed lanes of sources, of which the first has this number: the events of each lane are its results and
  -- then its end, if it has one, and the lane agrees with its source
  abbrev pub AreClosedBy : List (Event O) → ℕ → List A → List (ClosedLane S) → Type 0
  AreClosedBy events number [] [] = Unit {0}
  AreClosedBy events number [] (lane ∷ lanes) = ⊥
  AreClosedBy events number (source ∷ sources) [] = ⊥
  AreClosedBy events number (source ∷ sources) (lane ∷ lanes) =
      (of_lane number events ≡ lane_events (answers_in number events) lane.end)
      × agrees number source (answers_in number events) lane
      × AreClosedBy events (number + 1) sources lanes

  -- if a collector had received nothing before a batch with these sources, it has received the events of these
  -- lanes and no others
  abbrev pub AreCollectedBy : {C : Type 0} → (C → List (Event O) → Type 0) → List A → List (ClosedLane S) → C → C → Type 0
  AreCollectedBy given sources lanes before after =
      given before []
      → (events : List (Event O)) × given after events × AreClosedBy events 0 sources lanes × HasNoOthers events (length sources)

module _ {S M I O : Type 0} (gives : S → Result (Option I) SourceFault → S → Type 0) (makes : M → I → O) where
  -- `IsClosedOf` for the lane of a source with its maker
  abbrev pub IsClosedOne : ℕ → S × M → List O → ClosedLane S → Type 0
  IsClosedOne number source results lane = IsClosedOf gives (makes source.1) source.0 results lane

  -- the closed lanes of sources, each with its maker
  abbrev pub AreClosedOf : List (Event O) → ℕ → List (S × M) → List (ClosedLane S) → Type 0
  AreClosedOf events number sources lanes = AreClosedBy IsClosedOne events number sources lanes

  -- what a collector has received in a batch with these sources, each with its maker
  abbrev pub IsCollectedOf : {C : Type 0} → (C → List (Event O) → Type 0) → List (S × M) → RunEnd S → C → C → Type 0
  IsCollectedOf given sources run before after = AreCollectedBy IsClosedOne given sources run.lanes.items before after

module _ {S M O : Type 0} where
  -- these sources have, in order, the same origins as those of the call
  abbrev pub AreBack : (S → O) → List (S × M) → List S → Type 0
  AreBack origin sources back = map origin back ≡ map (λ source. origin source.0) sources

module _ {S : Type 0} where
  -- if there is no refusal, each lane has ended
  abbrev pub IsWhole : RunEnd S → Type 0
  IsWhole run = run.refusal ≡ None → All (λ lane. IsSome lane.end) run.lanes.items
