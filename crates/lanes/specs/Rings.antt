-- The messages that an end of a ring has sent or received, and the items that it has buffered.
-- This project's own; `sent` and `received` are those of `rtrb`.
use Rattle.std.specs.Prelude.{◌≡◌, ℕ, ◌-◌, List, length, take, Option}
use Rattle.rtrb.specs.Ring.{sent, received, SameProducer, SameConsumer}
use Rattle.lanes.specs.Messages.{items_of, end_of}
use Rattle.lanes.specs.declared.sender.Sender.{Sender}
use Rattle.lanes.specs.declared.receiver.Receiver.{Receiver}

module _ {T E TS : Type 0} where
  -- the items of the messages sent
  abbrev pub items_sent : Sender T E TS → List T
  items_sent o = items_of (sent o.producer)

  -- the number of messages sent
  abbrev pub messages_sent : Sender T E TS → ℕ
  messages_sent o = length (sent o.producer)

  -- the end that was sent
  abbrev pub end_sent : Sender T E TS → Option E
  end_sent o = end_of (sent o.producer)

  -- the items of the messages received
  abbrev pub items_received : Receiver T E TS → List T
  items_received i = items_of (received i.consumer)

  -- the number of messages received
  abbrev pub messages_received : Receiver T E TS → ℕ
  messages_received i = length (received i.consumer)

  -- the end that was received
  abbrev pub end_received : Receiver T E TS → Option E
  end_received i = end_of (received i.consumer)

  -- the items received that aren't buffered any more
  abbrev pub items_taken : Receiver T E TS → List T
  items_taken i = take (length (items_received i) - length i.hand.items) (items_received i)

  -- a sender of the same ring
  abbrev pub SameSender : Sender T E TS → Sender T E TS → Type 0
  SameSender a b = SameProducer a.producer b.producer

  -- a receiver of the same ring
  abbrev pub SameReceiver : Receiver T E TS → Receiver T E TS → Type 0
  SameReceiver a b = SameConsumer a.consumer b.consumer

  -- the same sender, with nothing sent since and the same items buffered
  abbrev pub IsSenderAsBefore : Sender T E TS → Sender T E TS → Type 0
  IsSenderAsBefore a b = SameSender a b × (sent b.producer ≡ sent a.producer) × (b.hand ≡ a.hand)

  -- the same receiver, with nothing received since and the same items buffered
  abbrev pub IsReceiverAsBefore : Receiver T E TS → Receiver T E TS → Type 0
  IsReceiverAsBefore a b = SameReceiver a b × (received b.consumer ≡ received a.consumer) × (b.hand ≡ a.hand)

-- a list is the first part of another
abbrev pub IsFirstOf : {T : Type 0} → List T → List T → Type 0
IsFirstOf front all = front ≡ take (length front) all
