-- The three endpoints of a lane, as lists: the items fed, the state of the setter, and the results taken.
-- This project's own.
use Rattle.std.specs.Prelude.{◌≡◌, ℕ, ◌+◌, nat_lt, Bool, is_some, List, [], ◌∷◌, ◌++◌, length, Option, Some, None, if◌then◌else◌}
use Rattle.rtrb.specs.Ring.{IsPair}
use Rattle.lanes.specs.Messages.{first_end, are_none}
use Rattle.lanes.specs.Turns.{SetterState}
use Rattle.lanes.specs.Takes.{TakerState}
use Rattle.lanes.specs.Rings.{items_sent, messages_sent, end_sent, SameSender, SameReceiver}
use Rattle.lanes.specs.Hands.{setter_state, taker_state}
use Rattle.lanes.specs.declared.feeder.Feeder.{Feeder}
use Rattle.lanes.specs.declared.setter.Setter.{Setter}
use Rattle.lanes.specs.declared.taker.Taker.{Taker}
use Rattle.lanes.specs.declared.ending.SourceEnd.{SourceEnd}
use Rattle.lanes.specs.declared.ending.LaneEnd.{LaneEnd}
use Rattle.lanes.specs.declared.offer_fault.OfferFault.{OfferFault}
use Rattle.lanes.specs.declared.offer_fault.OfferFault.TheVariants.{Closed, NoRoom}
use Rattle.lanes.specs.declared.making.Making.{Ghosts}

-- ---- the feeder

module _ {I : Type 0} where
  -- the error with which an item is returned: `Closed` if the feeder is closed, otherwise `NoRoom`, and only
  -- if the item would fill the open block
  abbrev pub IsRefusal : Option SourceEnd → ℕ → List I → I → OfferFault I → Type 0
  IsRefusal (Some end) block lines line (Closed back) = back ≡ line
  IsRefusal (Some end) block lines line (NoRoom back) = ⊥
  IsRefusal None block lines line (Closed back) = ⊥
  IsRefusal None block lines line (NoRoom back) = (back ≡ line) × (length lines + 1 ≡ block)

module _ {I IS : Type 0} where
  -- the items of the open block, which aren't sent yet
  abbrev pub open_lines : Feeder I IS → List I
  open_lines f = f.sender.hand.items

  -- the items that were fed: those sent, then those of the open block
  abbrev pub fed : Feeder I IS → List I
  fed f = items_sent f.sender ++ open_lines f

  -- the end that the feeder was closed with
  abbrev pub feeder_end : Feeder I IS → Option SourceEnd
  feeder_end f = end_sent f.sender

  -- the number of items in a full block
  abbrev pub block_of : Feeder I IS → ℕ
  block_of f = f.block

  -- the number of messages sent
  abbrev pub pushes : Feeder I IS → ℕ
  pushes f = messages_sent f.sender

  -- the items fed, the open block, the end and the messages sent are as before
  abbrev pub IsAsFed : Feeder I IS → Feeder I IS → Type 0
  IsAsFed f g =
      (fed g ≡ fed f) × (open_lines g ≡ open_lines f) × (feeder_end g ≡ feeder_end f) × (pushes g ≡ pushes f)

  -- whether the open block has room for one more item and is still open then
  abbrev pub stays_open : Feeder I IS → Bool
  stays_open f = nat_lt (length (open_lines f) + 1) (block_of f)

  -- an item was fed to a feeder that isn't closed: it was appended to the open block, and a block that is full
  -- then was sent as one message
  abbrev pub IsFed : Feeder I IS → I → Feeder I IS → Type 0
  IsFed f line g =
      (feeder_end f ≡ None)
      × (fed g ≡ fed f ++ line ∷ [])
      × (open_lines g ≡ (if stays_open f then open_lines f ++ line ∷ [] else []))
      × (pushes g ≡ (if stays_open f then pushes f else pushes f + 1))

  -- a feeder returns this item with this error
  abbrev pub IsRefused : Feeder I IS → I → OfferFault I → Type 0
  IsRefused f line fault = IsRefusal (feeder_end f) (block_of f) (open_lines f) line fault

  -- the open block is empty: its items, if there were any, were sent as one message
  abbrev pub IsFlushed : Feeder I IS → Feeder I IS → Type 0
  IsFlushed f g = (open_lines g ≡ []) × (pushes g ≡ (if are_none (open_lines f) then pushes f else pushes f + 1))

  -- a feeder was closed with this end, or keeps the first end if it was closed before. The open block is empty:
  -- its items were sent with the end, as one message
  abbrev pub IsClosedWith : Feeder I IS → SourceEnd → Feeder I IS → Type 0
  IsClosedWith f end g =
      (feeder_end g ≡ first_end (feeder_end f) (Some end))
      × (open_lines g ≡ [])
      × (pushes g ≡ (if is_some (feeder_end f) then pushes f else pushes f + 1))

-- ---- the setter and the taker

module _ {M I O IS OS : Type 0} {ghosts : Ghosts M I O IS OS} where
  -- the state of a setter: what its maker makes, and the items and results that it has received, made and sent
  abbrev pub state_of : Setter M I O IS OS ghosts → SetterState I O
  state_of s = setter_state (ghosts.makes s.maker) s.receiver s.sender s.ready

module _ {O OS : Type 0} where
  -- the state of a taker: the results taken, those still buffered, the end, and the number of messages received
  abbrev pub hands_of : Taker O OS → TakerState O
  hands_of t = taker_state t.receiver t.ended

  -- the results that were taken
  abbrev pub taken : Taker O OS → List O
  taken t = (hands_of t).taken

  -- the end that was taken
  abbrev pub taker_end : Taker O OS → Option LaneEnd
  taker_end t = if t.ended then (hands_of t).ending else None

-- ---- the lane

module _ {M I O IS OS : Type 0} {ghosts : Ghosts M I O IS OS} where
  -- the three endpoints of one lane
  abbrev pub IsLane : Feeder I IS → Setter M I O IS OS ghosts → Taker O OS → Type 0
  IsLane f s t = IsPair f.sender.producer s.receiver.consumer × IsPair s.sender.producer t.receiver.consumer

module _ {I IS : Type 0} where
  -- a feeder of the same ring, with blocks of the same length
  abbrev pub SameFeeder : Feeder I IS → Feeder I IS → Type 0
  SameFeeder f g = SameSender f.sender g.sender × (g.block ≡ f.block)

module _ {M I O IS OS : Type 0} {ghosts : Ghosts M I O IS OS} where
  -- a setter of the same two rings, with a maker that makes the same
  abbrev pub SameSetter : Setter M I O IS OS ghosts → Setter M I O IS OS ghosts → Type 0
  SameSetter s t = SameReceiver s.receiver t.receiver × SameSender s.sender t.sender × (ghosts.makes t.maker ≡ ghosts.makes s.maker)

module _ {O OS : Type 0} where
  -- a taker of the same ring
  abbrev pub SameTaker : Taker O OS → Taker O OS → Type 0
  SameTaker s t = SameReceiver s.receiver t.receiver
