use Rattle.std.proofs.Common.{ap, subst, sym, refl, ◌∙◌, ◌++◌, ◌+◌, length}
use Rattle.std.proofs.lemmas.Bool.{true≢false}
use Rattle.lanes.specs.Messages.{items_of}
use Rattle.lanes.specs.Rings.{end_sent, items_sent, messages_sent}
use Rattle.lanes.specs.Turns.{IsOrderly}
use Rattle.lanes.specs.Ends.{state_of}
use Rattle.lanes.proofs.TurnLemmas.{moves_sending, orderly_send, ready-undone, sent_in_hand, sent_state}
use Rattle.lanes.proofs.setter.Setter.send.Goals as goal

pub invariant_of-self : goal.invariant_of-self
invariant_of-self g c =
    let old = c.args.self.now in
    let looked = c.has_room.ensures in
    record { in_hand = rw (looked.sent, looked.hand) old.in_hand; orderly = rw (looked.sent, looked.hand) old.orderly; filled = rw looked.hand old.filled }

pub returns-then-not-has_room-clause-turn : goal.returns-then-not-has_room-clause-turn
returns-then-not-has_room-clause-turn g c =
    (rw (c.has_room.ensures.sent, c.has_room.ensures.hand) refl, ready-undone (state_of c.args.self.now) c.requires, c.requires)

pub send-requires : goal.send-requires
send-requires g c =
    let old = c.args.self.now in
    let looked = c.has_room.ensures in
    record {
      room = looked.room c.if-not-has_room.false;
      unended = rw looked.sent (old.in_hand.2 c.requires);
      filled = rw looked.hand (old.filled c.requires);
    }

pub invariant_of-self-2 : goal.invariant_of-self-2
invariant_of-self-2 g c =
    let old = c.args.self.now in
    let looked = c.has_room.ensures in
    let sent = c.send.ensures in
    record {
      in_hand = sent_in_hand g.M.Making.slots old.receiver.hand.items old.sender.hand c.send.new.self.hand (end_sent c.send.new.self) old.in_hand.0 sent.hand;
      orderly = subst IsOrderly
          (sym (sent_state (state_of old) (items_sent c.send.new.self) c.send.new.self.hand (end_sent c.send.new.self) (end_sent old.sender)
          old.sender.hand.ending (messages_sent c.send.new.self) refl (old.in_hand.2 c.requires)
          (sent.items ∙ ap (λ p. items_of p ++ c.has_room.new.self.hand.items) looked.sent ∙ ap (λ h. items_sent old.sender ++ h.items) looked.hand)
          sent.hand (sent.ended ∙ ap (λ h. h.ending) looked.hand) (sent.count ∙ ap (λ p. length p + 1) looked.sent)))
          (orderly_send (state_of old) old.orderly);
      filled = λ e. absurd (true≢false (sym e));
    }

pub returns-clause-turn : goal.returns-clause-turn
returns-clause-turn g c =
    let old = c.args.self.now in
    let looked = c.has_room.ensures in
    let sent = c.send.ensures in (
      ready-undone (state_of old) c.requires,
      moves_sending (state_of old) _ c.requires
          (sent_state (state_of old) (items_sent c.send.new.self) c.send.new.self.hand (end_sent c.send.new.self) (end_sent old.sender)
          old.sender.hand.ending (messages_sent c.send.new.self) refl (old.in_hand.2 c.requires)
          (sent.items ∙ ap (λ p. items_of p ++ c.has_room.new.self.hand.items) looked.sent ∙ ap (λ h. items_sent old.sender ++ h.items) looked.hand)
          sent.hand (sent.ended ∙ ap (λ h. h.ending) looked.hand) (sent.count ∙ ap (λ p. length p + 1) looked.sent)),
    )
