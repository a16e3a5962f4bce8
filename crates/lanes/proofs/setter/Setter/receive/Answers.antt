use Rattle.std.proofs.Common.{arith, ◌≤◌, length, refl, subst, sym, ap, ◌∙◌}
use Rattle.lanes.specs.Rings.{end_sent, items_received, end_received, messages_received}
use Rattle.lanes.specs.Turns.{IsOrderly}
use Rattle.lanes.specs.Ends.{state_of}
use Rattle.lanes.proofs.TurnLemmas.{message_filled, message_in_hand, message_state, before_end-unmade, undone-before_end, orderly_receipt, receipt-dropping, unsent, moves_on, moves_receiving}
use Rattle.lanes.proofs.setter.Setter.receive.Goals as goal

pub invariant_of-self-else-given_up-clause-in_hand : goal.invariant_of-self-else-given_up-clause-in_hand
invariant_of-self-else-given_up-clause-in_hand g c =
    let old = c.args.self.now in
    let source = undone-before_end (state_of old) c.requires.lines c.requires.ready c.requires.done old.orderly in
    let going = sym c.has_given_up-given_up.ensures ∙ c.if-given_up.false in
    message_in_hand g.M.Making.slots c.receive.new.self.hand old.sender.hand c.finish-self.new.answers (end_sent old.sender) c.finish-self.result
    (subst (λ n. length c.receive.new.self.hand.items ≤ n) (sym g.met.M.Making.fits.0) (c.receive.ensures.few c.if-not-receive.false))
    (old.orderly.4 c.requires.ready c.requires.lines) c.finish-self.ensures.items c.finish-self.ensures.ready c.finish-self.ensures.ending
    (unsent (state_of old) (end_sent old.sender) old.sender.hand.ending refl (before_end-unmade (state_of old) c.requires.lines source going old.orderly))

pub invariant_of-self-else-given_up-clause-orderly : goal.invariant_of-self-else-given_up-clause-orderly
invariant_of-self-else-given_up-clause-orderly g c =
    let old = c.args.self.now in
    let m = c.receive.new.self.hand in
    let source = undone-before_end (state_of old) c.requires.lines c.requires.ready c.requires.done old.orderly in
    let going = sym c.has_given_up-given_up.ensures ∙ c.if-given_up.false in
    subst IsOrderly
    (sym (message_state (state_of old) m c.finish-self.new.answers (end_sent old.sender) c.finish-self.result
    (items_received c.receive.new.self) (end_received c.receive.new.self) (messages_received c.receive.new.self) going
    (unsent (state_of old) (end_sent old.sender) old.sender.hand.ending refl (before_end-unmade (state_of old) c.requires.lines source going old.orderly))
    c.finish-self.ensures.items c.finish-self.ensures.ready c.finish-self.ensures.ending
    (c.receive.ensures.items c.if-not-receive.false) (c.receive.ensures.ended c.if-not-receive.false) (c.receive.ensures.count c.if-not-receive.false)))
    (orderly_receipt (state_of old) m c.requires.lines c.requires.ready old.orderly)

pub returns-then-given_up-clause-turn : goal.returns-then-given_up-clause-turn
returns-then-given_up-clause-turn g c =
    let old = c.args.self.now in
    let m = c.receive.new.self.hand in
    let source = undone-before_end (state_of old) c.requires.lines c.requires.ready c.requires.done old.orderly in
    let up = sym c.has_given_up-given_up.ensures ∙ c.if-given_up.true in (
      c.requires.done,
      moves_on (state_of old) _ c.requires.ready
          (moves_receiving (state_of old) _ m c.requires.lines source (c.receive.ensures.eight c.if-not-receive.false)
          (receipt-dropping (state_of old) m (items_received c.receive.new.self) c.clear.new.self.items (end_received c.receive.new.self)
          (messages_received c.receive.new.self) up (c.receive.ensures.items c.if-not-receive.false)
          (c.receive.ensures.ended c.if-not-receive.false) (ap (λ x. x.items) c.clear.ensures) c.requires.lines
          (c.receive.ensures.count c.if-not-receive.false))),
    )

pub invariant_of-self-else-given_up-clause-filled : goal.invariant_of-self-else-given_up-clause-filled
invariant_of-self-else-given_up-clause-filled g c =
    message_filled c.receive.new.self.hand c.finish-self.new.answers c.finish-self.result
    (c.receive.ensures.filled c.if-not-receive.false) c.finish-self.ensures.ready c.finish-self.ensures.ending

pub finish-self-requires : goal.finish-self-requires
finish-self-requires g c = c.args.self.now.in_hand.1 c.requires.ready

pub receive-requires : goal.receive-requires
receive-requires g c =
    let old = c.args.self.now in
    undone-before_end (state_of old) c.requires.lines c.requires.ready c.requires.done old.orderly

pub invariant_of-self : goal.invariant_of-self
invariant_of-self g c =
    let old = c.args.self.now in
    let nothing = c.receive.ensures.nothing c.if-not-receive.true in
    record { in_hand = rw nothing.1 old.in_hand; orderly = rw (nothing.0, nothing.1) old.orderly; filled = old.filled }

pub returns-then-not-receive-clause-turn : goal.returns-then-not-receive-clause-turn
returns-then-not-receive-clause-turn g c =
    let old = c.args.self.now in
    let nothing = c.receive.ensures.nothing c.if-not-receive.true in (
      rw (nothing.0, nothing.1) refl,
      c.requires.done,
      c.requires.ready,
      c.requires.lines,
      undone-before_end (state_of old) c.requires.lines c.requires.ready c.requires.done old.orderly,
    )

pub invariant_of-self-then-given_up : goal.invariant_of-self-then-given_up
invariant_of-self-then-given_up g c =
    let old = c.args.self.now in
    let came = c.receive.new.self in
    let is = c.if-not-receive.false in
    let none = ap (λ m. length m.items) c.clear.ensures in (
      (ap (λ m. m.ending) c.clear.ensures ∙ came.told, tt),
      (
        (omega (arith, none, old.in_hand.0), old.in_hand.1, old.in_hand.2),
        (
          subst IsOrderly
              (sym (receipt-dropping (state_of old) came.hand (items_received came) c.clear.new.self.items (end_received came)
              (messages_received came) (sym c.has_given_up-given_up.ensures ∙ c.if-given_up.true) (c.receive.ensures.items is)
              (c.receive.ensures.ended is) (ap (λ m. m.items) c.clear.ensures) c.requires.lines (c.receive.ensures.count is)))
              (orderly_receipt (state_of old) came.hand c.requires.lines c.requires.ready old.orderly),
          (old.filled, tt),
        ),
      ),
    )

pub returns-else-given_up-clause-turn : goal.returns-else-given_up-clause-turn
returns-else-given_up-clause-turn g c =
    let old = c.args.self.now in
    let m = c.receive.new.self.hand in
    let source = undone-before_end (state_of old) c.requires.lines c.requires.ready c.requires.done old.orderly in
    let going = sym c.has_given_up-given_up.ensures ∙ c.if-given_up.false in (
      c.requires.done,
      moves_on (state_of old) _ c.requires.ready
          (moves_receiving (state_of old) _ m c.requires.lines source (c.receive.ensures.eight c.if-not-receive.false)
          (message_state (state_of old) m c.finish-self.new.answers (end_sent old.sender) c.finish-self.result
          (items_received c.receive.new.self) (end_received c.receive.new.self) (messages_received c.receive.new.self) going
          (unsent (state_of old) (end_sent old.sender) old.sender.hand.ending refl (before_end-unmade (state_of old) c.requires.lines source going old.orderly))
          c.finish-self.ensures.items c.finish-self.ensures.ready c.finish-self.ensures.ending
          (c.receive.ensures.items c.if-not-receive.false) (c.receive.ensures.ended c.if-not-receive.false) (c.receive.ensures.count c.if-not-receive.false))),
    )
