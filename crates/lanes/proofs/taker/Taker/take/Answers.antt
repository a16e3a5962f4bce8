use Rattle.std.proofs.Common.{ap, sym, ◌+◌, ◌++◌, ◌∙◌, append-nil}
use Rattle.lanes.specs.Messages.{items_of}
use Rattle.lanes.specs.Rings.{items_received, items_taken, end_received}
use Rattle.lanes.specs.Hands.{taker_state}
use Rattle.lanes.specs.Ends.{hands_of}
use Rattle.lanes.proofs.LaneLemmas.{taken_front}
use Rattle.lanes.proofs.TakeLemmas.{all_received, takes_received}
use Rattle.lanes.proofs.taker.Taker.take.Goals as goal

pub invariant_of-self : goal.invariant_of-self
invariant_of-self g c =
    let held = c.take_held.new.self in
    let took = c.in_default.ensures.took in
    record {
      all = all_received c.receive.result (items_received held.receiver) (items_received c.receive.new.self) held.receiver.hand.items
          c.receive.new.self.hand.items held.ended (end_received c.receive.new.self) (ap (λ x. x.ended) took.0 ∙ took.3) held.all.0
          c.receive.ensures.items (λ none. ap items_of (c.receive.ensures.nothing none).0) (λ none. ap (λ m. m.items) (c.receive.ensures.nothing none).1);
    }

pub returns-then-not-receive-clause-took : goal.returns-then-not-receive-clause-took
returns-then-not-receive-clause-took g c =
    let took = c.in_default.ensures.took in
    let nothing = c.receive.ensures.nothing c.if-not-receive.true in
    (rw (nothing.0, nothing.1) took.0, took.1, took.2, took.3)

pub returns-clause-took : goal.returns-clause-took
returns-clause-took g c =
    let old = c.args.self.now in
    let held = c.take_held.new.self in
    let came = c.receive.new.self in
    let took = c.in_default.ensures.took in
    let received = c.receive.ensures in
    let is = c.if-not-receive.false in
    rw c.unwrap_or.ensures
    (takes_received g.O.Made.is_right (hands_of old) (taker_state came held.ended) (hands_of c.take_held-2.new.self) c.take_held-2.result took.1 took.2 took.3
    (taken_front (items_received came) (items_received held.receiver) came.hand.items (sym (received.items is)) ∙ sym held.all.0
    ∙ ap (λ h. items_taken held.receiver ++ h) (ap (λ x. x.held) took.0 ∙ took.1) ∙ append-nil (items_taken held.receiver) ∙ ap (λ x. x.taken) took.0)
    (received.count is ∙ ap (λ x. x.popped + 1) took.0)
    (λ none noend. received.filled is none (sym (received.ended is) ∙ noend)) c.take_held-2.ensures.took)
