-- The state of a taker, and how each call of `take` changes it.
-- This project's own.
use Rattle.std.specs.Prelude.{◌≡◌, ℕ, ◌+◌, Bool, true, false, List, [], ◌∷◌, ◌++◌, Option, Some, None, is_some, if◌then◌else◌}
use Rattle.lanes.specs.Messages.{first_end}
use Rattle.lanes.specs.declared.ending.LaneEnd.{LaneEnd}
use Rattle.lanes.specs.declared.took.Took.{Took}
use Rattle.lanes.specs.declared.took.Took.TheVariants.{Nothing, Answer, End}

-- the results taken, those still buffered, the end after them if it was received, whether the end was taken, and
-- the number of messages received
pub record TakerState (O : Type 0) : Type 0 where
  pub taken : List O
  pub held : List O
  pub ending : Option LaneEnd
  pub ended : Bool
  pub popped : ℕ

module _ {O : Type 0} where
  -- a taker that has received nothing
  abbrev pub empty_handed : TakerState O
  empty_handed = record { taken = []; held = []; ending = None; ended = false; popped = 0 }

  -- the result taken is the first buffered one, and no message is received; if none is buffered, it is from the
  -- one message that is received, and no end was received before
  abbrev pub TakesFrom : List O → O → TakerState O → TakerState O → Type 0
  TakesFrom (first ∷ rest) answer s t = (answer ≡ first) × (t.held ≡ rest) × (t.ending ≡ s.ending) × (t.popped ≡ s.popped)
  TakesFrom [] answer s t = (s.ending ≡ None) × (t.popped ≡ s.popped + 1)

  -- the number of messages received, once an end was received: one more if none was received before
  abbrev pub popped_for : TakerState O → ℕ
  popped_for s = if is_some s.ending then s.popped else s.popped + 1

  -- an end is taken if no result is buffered: the one that was received before, or that of the one message that is
  -- received. Taking it again changes nothing
  abbrev pub TakesEnd : LaneEnd → TakerState O → TakerState O → Type 0
  TakesEnd end s t =
      (s.held ≡ [])
      × (first_end s.ending (Some end) ≡ Some end)
      × (t ≡ record { taken = s.taken; held = []; ending = Some end; ended = true; popped = popped_for s })
      × (s.ended ≡ true → t ≡ s)

  -- the return value of `take`: nothing, only if no result and no end was buffered; the next result, which is
  -- right; or the end
  abbrev pub Takes : (O → Type 0) → TakerState O → Took O → TakerState O → Type 0
  Takes right s Nothing t = (t ≡ s) × (s.held ≡ []) × (s.ending ≡ None) × (s.ended ≡ false)
  Takes right s (Answer answer) t =
      right answer × (s.ended ≡ false) × (t.ended ≡ false) × (t.taken ≡ s.taken ++ answer ∷ []) × TakesFrom s.held answer s t
  Takes right s (End end) t = TakesEnd end s t

  -- the next buffered result or the end was taken; or nothing is buffered, and nothing changes
  abbrev pub IsTakenFromHand : (O → Type 0) → TakerState O → Option (Took O) → TakerState O → Type 0
  IsTakenFromHand right s None t = (t ≡ s) × (s.held ≡ []) × (s.ending ≡ None) × (s.ended ≡ false)
  IsTakenFromHand right s (Some took) t = Takes right s took t × ((took ≡ Nothing) → ⊥)
