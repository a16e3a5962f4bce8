-- The events that the collector of a batch receives: the results and the ends of lanes, in order. `O` is the
-- type of the results.
-- This project's own.
use Rattle.std.specs.Prelude.{ℕ, ◌==◌, Bool, true, false, List, [], ◌∷◌, ◌++◌, Option, Some, None, if◌then◌else◌}
use Rattle.lanes.specs.declared.ending.LaneEnd.{LaneEnd}

-- an event of a lane: its next result, or its end
pub data LaneEvent (O : Type 0) : Type 0 where
  Answered : O → LaneEvent O
  Ended : LaneEnd → LaneEvent O

-- an event of a batch: the number of a lane, and an event of this lane
abbrev pub Event : Type 0 → Type 0
Event O = ℕ × LaneEvent O

module _ {O : Type 0} where
  -- the events of one lane, in order
  abbrev pub of_lane : ℕ → List (Event O) → List (LaneEvent O)
  of_lane lane [] = []
  of_lane lane (event ∷ events) = if event.0 == lane then event.1 ∷ of_lane lane events else of_lane lane events

  -- the results among the events of a lane, in order
  abbrev pub answers_among : List (LaneEvent O) → List O
  answers_among [] = []
  answers_among (Answered answer ∷ events) = answer ∷ answers_among events
  answers_among (Ended end ∷ events) = answers_among events

  -- the results of a lane, in order
  abbrev pub answers_in : ℕ → List (Event O) → List O
  answers_in lane events = answers_among (of_lane lane events)

  -- the events of a lane with these results: each result, in order, and then the end, if there is one
  abbrev pub lane_events : List O → Option LaneEnd → List (LaneEvent O)
  lane_events [] None = []
  lane_events [] (Some end) = Ended end ∷ []
  lane_events (answer ∷ answers) end = Answered answer ∷ lane_events answers end

module _ {C O : Type 0} where
  -- a collector has received one more event, unless it refused this event; the events received before are
  -- unchanged
  abbrev pub Gets : (C → List (Event O) → Type 0) → C → Event O → Bool → C → Type 0
  Gets given before event true after = (events : List (Event O)) → given before events → given after (events ++ event ∷ [])
  Gets given before event false after = (events : List (Event O)) → given before events → given after events

  -- the events that a collector has received are unchanged
  abbrev pub Keeps : (C → List (Event O) → Type 0) → C → C → Type 0
  Keeps given before after = (events : List (Event O)) → given before events → given after events
