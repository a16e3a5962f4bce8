-- The states of a setter and of a taker, from their ends of the two rings.
-- This project's own.
use Rattle.std.specs.Prelude.{◌≡◌, ℕ, ◌+◌, ◌≤◌, Bool, true, false, [], ◌++◌, length, None, is_some}
use Rattle.lanes.specs.Messages.{first_end}
use Rattle.lanes.specs.Turns.{SetterState}
use Rattle.lanes.specs.Takes.{TakerState}
use Rattle.lanes.specs.Rings.{messages_sent, messages_received, items_sent, end_sent, items_received, end_received, items_taken}
use Rattle.lanes.specs.declared.sender.Sender.{Sender}
use Rattle.lanes.specs.declared.receiver.Receiver.{Receiver}
use Rattle.lanes.specs.declared.ending.SourceEnd.{SourceEnd}
use Rattle.lanes.specs.declared.ending.LaneEnd.{LaneEnd}

module _ {I O IS OS : Type 0} where
  -- the state of a setter: what its maker makes, the items received, the results sent, and what is buffered
  abbrev pub setter_state : (I → O) → Receiver I SourceEnd IS → Sender O LaneEnd OS → Bool → SetterState I O
  setter_state makes receiver sender ready = record {
    makes = makes;
    seen = items_received receiver;
    source = end_received receiver;
    lines = receiver.hand.items;
    given = items_sent sender;
    answers = sender.hand.items;
    ready = ready;
    made = first_end (end_sent sender) sender.hand.ending;
    popped = messages_received receiver;
    pushed = messages_sent sender;
  }

  -- the buffered items and results of a setter are no more than a message of items has slots; the next message has an end only if it is
  -- ready, and none is ready after an end was sent
  abbrev pub IsInHand : ℕ → Receiver I SourceEnd IS → Sender O LaneEnd OS → Bool → Type 0
  IsInHand slots receiver sender ready =
      (length receiver.hand.items + length sender.hand.items ≤ slots)
      × (ready ≡ false → sender.hand.ending ≡ None)
      × (ready ≡ true → end_sent sender ≡ None)

module _ {O OS : Type 0} where
  -- the state of a taker: the results taken, those still buffered, the end, and the number of messages received
  abbrev pub taker_state : Receiver O LaneEnd OS → Bool → TakerState O
  taker_state receiver ended =
      record { taken = items_taken receiver; held = receiver.hand.items; ending = end_received receiver; ended = ended; popped = messages_received receiver }

  -- the results taken and those buffered are all that were received; a taker has returned the end only if none
  -- is buffered and an end was received
  abbrev pub IsAllReceived : Receiver O LaneEnd OS → Bool → Type 0
  IsAllReceived receiver ended =
      (items_taken receiver ++ receiver.hand.items ≡ items_received receiver)
      × (ended ≡ true → receiver.hand.items ≡ [])
      × (ended ≡ true → is_some (end_received receiver) ≡ true)
