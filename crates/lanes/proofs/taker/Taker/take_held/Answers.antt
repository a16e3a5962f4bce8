use Rattle.std.proofs.Common.{ap, arith}
use Rattle.lanes.specs.Rings.{items_received, end_received, messages_received}
use Rattle.lanes.proofs.TakeLemmas.{taken_next, taken_whole, holding-unended, takes_held}
use Rattle.lanes.proofs.taker.Taker.take_held.Goals as goal

pub invariant_of-self-in-Some-1 : goal.invariant_of-self-in-Some-1
invariant_of-self-in-Some-1 g c =
    let held = ap (λ m. m.items) c.in-Some.ensures in
    let all = c.args.self.now.all in
    record {
      all = (
        taken_whole (items_received c.args.self.now.receiver) c.args.self.now.receiver.hand.items c.take_first.new.self.items c.in-Some.answer held all.0,
        (λ ended. let none = all.1 ended in absurd (grind (arith, none, held))),
        all.2,
      );
    }

pub returns-in-Some-clause-took : goal.returns-in-Some-clause-took
returns-in-Some-clause-took g c =
    let held = ap (λ m. m.items) c.in-Some.ensures in
    let old = c.args.self.now in
    let unended = holding-unended old.ended old.receiver.hand.items c.take_first.new.self.items c.in-Some.answer old.all.1 held in (
      (
        c.show_right.ensures,
        unended,
        unended,
        taken_next (items_received old.receiver) old.receiver.hand.items c.take_first.new.self.items c.in-Some.answer held old.all.0,
        takes_held (items_received old.receiver) old.receiver.hand.items c.take_first.new.self.items c.in-Some.answer (end_received old.receiver)
            old.ended (messages_received old.receiver) held,
      ),
      (λ e. grind (arith, e)),
    )
