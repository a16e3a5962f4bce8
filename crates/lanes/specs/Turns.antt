-- The state of a setter, and how each of its moves changes it.
-- This project's own.
use Rattle.std.specs.Prelude.{◌≡◌, ℕ, ◌+◌, ◌≤◌, ◌&&◌, not, Bool, true, false, List, [], ◌∷◌, ◌++◌, length, map, take, drop, Option, Some, None, is_some, if◌then◌else◌}
use Rattle.std.specs.Option.{option_map}
use Rattle.lanes.specs.Messages.{MessageValue, are_none}
use Rattle.lanes.specs.Lane.{lane_end_of}
use Rattle.lanes.specs.declared.ending.SourceEnd.{SourceEnd}
use Rattle.lanes.specs.declared.ending.LaneEnd.{LaneEnd}
use Rattle.lanes.specs.declared.ending.LaneEnd.TheVariants.{Complete, SourceFailed, GaveUp}
use Rattle.lanes.specs.declared.turn.Turn.{Turn}
use Rattle.lanes.specs.declared.turn.Turn.TheVariants.{Idle, Moved, Blocked, Done}

-- the result that is made of each item; the items received, and the source's end if it was received; those of
-- the items of which nothing is made yet; the results sent, and those in the next message; whether this
-- message is ready to be sent; the end of the lane, if the setter has made it, whether or not it was sent; the
-- numbers of messages received and sent
pub record SetterState (I O : Type 0) : Type 0 where
  pub makes : I → O
  pub seen : List I
  pub source : Option SourceEnd
  pub lines : List I
  pub given : List O
  pub answers : List O
  pub ready : Bool
  pub made : Option LaneEnd
  pub popped : ℕ
  pub pushed : ℕ

module _ {I O : Type 0} where
  -- a setter that has received nothing
  abbrev pub fresh : (I → O) → SetterState I O
  fresh makes =
      record { makes = makes; seen = []; source = None; lines = []; given = []; answers = []; ready = false; made = None; popped = 0; pushed = 0 }

-- whether the end that was made is that of an abandoned lane
abbrev pub is_given_up : Option LaneEnd → Bool
is_given_up (Some GaveUp) = true
is_given_up (Some Complete) = false
is_given_up (Some (SourceFailed fault)) = false
is_given_up None = false

module _ {I O : Type 0} where
  -- whether nothing remains to be done: the source's end was received, and a message with an end was sent
  abbrev pub is_done : SetterState I O → Bool
  is_done s = is_some s.source && (is_some s.made && not s.ready)

module _ {I : Type 0} where
  -- the end of a lane that isn't abandoned: none while these items are left, then the one that belongs to
  -- its source's end
  abbrev pub end_with : List I → Option SourceEnd → Option LaneEnd
  end_with [] source = option_map lane_end_of source
  end_with (line ∷ lines) source = None

-- ---- the moves

module _ {I O : Type 0} where
  -- the ready message is sent
  abbrev pub after_send : SetterState I O → SetterState I O
  after_send s = record s { given = s.given ++ s.answers; answers = []; ready = false; pushed = s.pushed + 1 }

  -- the result of the first received item is made; if it was the last one, the results are ready, with the end
  -- if the source's end was received
  abbrev pub after_set : SetterState I O → I → List I → SetterState I O
  after_set s line rest =
      record s { lines = rest; answers = s.answers ++ s.makes line ∷ []; ready = are_none rest; made = end_with rest s.source }

  -- a message is received: its items are left to be made into results; if it has none, the next message is ready
  abbrev pub after_message : SetterState I O → MessageValue I SourceEnd → SetterState I O
  after_message s m =
      record s { seen = s.seen ++ m.items; source = m.ending; lines = m.items; ready = are_none m.items; made = end_with m.items m.ending; popped = s.popped + 1 }

  -- a message is received in an abandoned lane: its items are dropped
  abbrev pub after_dropping : SetterState I O → MessageValue I SourceEnd → SetterState I O
  after_dropping s m = record s { seen = s.seen ++ m.items; source = m.ending; popped = s.popped + 1 }

  -- a message is received: an abandoned lane drops its items, any other keeps them
  abbrev pub after_receipt : SetterState I O → MessageValue I SourceEnd → SetterState I O
  after_receipt s m = if is_given_up s.made then after_dropping s m else after_message s m

  -- a lane is abandoned: the items that are left are dropped, and the results that aren't sent are ready, with
  -- the end `GaveUp`; a setter that has made an end before is unchanged
  abbrev pub given_up : SetterState I O → SetterState I O
  given_up s = if is_some s.made then s else record s { lines = []; ready = true; made = Some GaveUp }

-- ---- turns

module _ {I O : Type 0} where
  -- a move if no message is ready: the result of the first item is made; or, if no item is left, a message of
  -- up to eight items is received, and the source's end wasn't received before
  abbrev pub MovesOn : List I → SetterState I O → SetterState I O → Type 0
  MovesOn (line ∷ rest) s t = t ≡ after_set s line rest
  MovesOn [] s t = (s.source ≡ None) × ((m : MessageValue I SourceEnd) × (length m.items ≤ 8) × (t ≡ after_receipt s m))

  -- a move, the first that applies: a ready message is sent, a result is made, or a message is received
  abbrev pub Moves : Bool → SetterState I O → SetterState I O → Type 0
  Moves true s t = t ≡ after_send s
  Moves false s t = MovesOn s.lines s t

  -- a turn: `Done` only if nothing remains to be done, and any other value only if something does; `Blocked`
  -- only if a message is ready; `Idle` only if none is ready, no item is left and the source's end wasn't
  -- received; `Moved` for a move
  abbrev pub Turns : SetterState I O → Turn → SetterState I O → Type 0
  Turns s Done t = (t ≡ s) × (is_done s ≡ true)
  Turns s Blocked t = (t ≡ s) × (is_done s ≡ false) × (s.ready ≡ true)
  Turns s Idle t = (t ≡ s) × (is_done s ≡ false) × (s.ready ≡ false) × (s.lines ≡ []) × (s.source ≡ None)
  Turns s Moved t = (is_done s ≡ false) × Moves s.ready s t

-- ---- an invariant of setters

module _ {I O : Type 0} where
  -- the results sent and to be sent are those made of the first items received. Unless the lane is abandoned,
  -- the items that are left are the others, and the end is made once the source's end was received and no item
  -- is left. In an abandoned lane no item is left. If no item is left and no message is ready, no result is
  -- left to be sent
  abbrev pub IsOrderly : SetterState I O → Type 0
  IsOrderly s =
      (s.given ++ s.answers ≡ map s.makes (take (length (s.given ++ s.answers)) s.seen))
      × (is_given_up s.made ≡ false → s.lines ≡ drop (length (s.given ++ s.answers)) s.seen)
      × (is_given_up s.made ≡ false → s.made ≡ end_with s.lines s.source)
      × (is_given_up s.made ≡ true → s.lines ≡ [])
      × (s.ready ≡ false → s.lines ≡ [] → s.answers ≡ [])
