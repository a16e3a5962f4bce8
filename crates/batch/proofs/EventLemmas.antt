-- One event more.
use Rattle.std.proofs.Common.{◌≡◌, ℕ, Bool, true, false, List, [], ◌∷◌, ◌++◌, Option, Some, None, refl, ap, ◌∙◌, append-nil}
use Rattle.std.specs.Prelude.{◌==◌, if◌then◌else◌}
use Rattle.std.proofs.lemmas.Bool.{eq-eqb, ne_eqb}
use Rattle.lanes.specs.declared.ending.LaneEnd.{LaneEnd}
use Rattle.batch.specs.Events.{LaneEvent, Answered, Ended, Event, of_lane, answers_among, answers_in, lane_events}

module _ {O : Type 0} where
  -- an element that stands before both lists or before neither
  perhaps_first : (b : Bool) (x : LaneEvent O) (ys xs tail : List (LaneEvent O)) → ys ≡ xs ++ tail
      → (if b then x ∷ ys else ys) ≡ (if b then x ∷ xs else xs) ++ tail
  perhaps_first true x ys xs tail e = ap (λ l. x ∷ l) e
  perhaps_first false x ys xs tail e = e

  -- what came of a lane, with one event more
  of_more : (lane : ℕ) (events : List (Event O)) (event : Event O) → of_lane lane (events ++ event ∷ []) ≡ of_lane lane events ++ of_lane lane (event ∷ [])
  of_more lane [] event = refl
  of_more lane (e ∷ events) event =
      perhaps_first (e.0 == lane) e.1 (of_lane lane (events ++ event ∷ [])) (of_lane lane events) (of_lane lane (event ∷ [])) (of_more lane events event)

  -- one of this lane
  pub of_own : (lane : ℕ) (events : List (Event O)) (told : LaneEvent O) → of_lane lane (events ++ (lane, told) ∷ []) ≡ of_lane lane events ++ told ∷ []
  of_own lane events told =
      of_more lane events (lane, told)
      ∙ ap (λ (b : Bool). of_lane lane events ++ (if b then told ∷ [] else [])) (eq-eqb lane lane refl)

  -- one of another lane
  pub of_other : (lane other : ℕ) (events : List (Event O)) (told : LaneEvent O) → (lane ≡ other → ⊥)
      → of_lane other (events ++ (lane, told) ∷ []) ≡ of_lane other events
  of_other lane other events told differ =
      of_more other events (lane, told)
      ∙ ap (λ (b : Bool). of_lane other events ++ (if b then told ∷ [] else [])) (ne_eqb lane other differ)
      ∙ nothing_more (of_lane other events)
    where
      nothing_more : (xs : List (LaneEvent O)) → xs ++ [] ≡ xs
      nothing_more [] = refl
      nothing_more (x ∷ xs) = ap (λ l. x ∷ l) (nothing_more xs)

  -- one answer more
  pub answered_more : (answers : List O) (answer : O)
      → lane_events answers None ++ Answered answer ∷ [] ≡ lane_events (answers ++ answer ∷ []) None
  answered_more [] answer = refl
  answered_more (a ∷ answers) answer = ap (λ l. Answered a ∷ l) (answered_more answers answer)

  -- the end
  pub ended_more : (answers : List O) (end : LaneEnd) → lane_events answers None ++ Ended end ∷ [] ≡ lane_events answers (Some end)
  ended_more [] end = refl
  ended_more (a ∷ answers) end = ap (λ l. Answered a ∷ l) (ended_more answers end)

  -- the answers of a lane are those that came of it
  pub answers_back : (answers : List O) (end : Option LaneEnd) → answers_among (lane_events answers end) ≡ answers
  answers_back [] None = refl
  answers_back [] (Some end) = refl
  answers_back (a ∷ answers) end = ap (λ l. a ∷ l) (answers_back answers end)

  -- the answers of lists of events, one after the other
  answers_append : (xs ys : List (LaneEvent O)) → answers_among (xs ++ ys) ≡ answers_among xs ++ answers_among ys
  answers_append [] ys = refl
  answers_append (Answered a ∷ xs) ys = ap (λ l. a ∷ l) (answers_append xs ys)
  answers_append (Ended e ∷ xs) ys = answers_append xs ys

  -- an answer of this lane
  pub answers_own : (lane : ℕ) (events : List (Event O)) (answer : O)
      → answers_in lane (events ++ (lane, Answered answer) ∷ []) ≡ answers_in lane events ++ answer ∷ []
  answers_own lane events answer = ap answers_among (of_own lane events (Answered answer)) ∙ answers_append (of_lane lane events) (Answered answer ∷ [])

  -- an answer of another lane
  pub answers_other : (lane other : ℕ) (events : List (Event O)) (answer : O) → (lane ≡ other → ⊥)
      → answers_in other (events ++ (lane, Answered answer) ∷ []) ≡ answers_in other events
  answers_other lane other events answer differ = ap answers_among (of_other lane other events (Answered answer) differ)

  -- an end of any lane
  pub answers_ended : (lane other : ℕ) (events : List (Event O)) (end : LaneEnd) → answers_in other (events ++ (lane, Ended end) ∷ []) ≡ answers_in other events
  answers_ended lane other events end =
      ap answers_among (of_more other events (lane, Ended end))
      ∙ answers_append (of_lane other events) (of_lane other ((lane, Ended end) ∷ []))
      ∙ none (lane == other) (answers_in other events)
    where
      none : (b : Bool) (answers : List O) → answers ++ answers_among (if b then Ended end ∷ [] else []) ≡ answers
      none true answers = append-nil answers
      none false answers = append-nil answers
