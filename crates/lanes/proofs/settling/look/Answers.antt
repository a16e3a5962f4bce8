use Rattle.lanes.proofs.settling.look.Goals as goal

pub meet-requires-2 : goal.meet-requires-2
meet-requires-2 g c = c.requires.1

pub invariant_of-feeder : goal.invariant_of-feeder
invariant_of-feeder g c =
    let old = c.args.feeder.now in
    let sender = c.meet.ensures.sender in
    record { short = rw sender.2 old.short; plain = rw sender.2 old.plain; closed = rw (sender.1, sender.2) old.closed }

pub invariant_of-setter : goal.invariant_of-setter
invariant_of-setter g c =
    let old = c.args.setter.now in
    let receiver = c.meet.ensures.receiver in
    let sender = c.meet-2.ensures.sender in
    record {
      in_hand = rw (receiver.2, sender.1, sender.2) old.in_hand;
      orderly = rw (receiver.1, receiver.2, sender.1, sender.2) old.orderly;
      filled = rw sender.2 old.filled;
    }

pub invariant_of-taker : goal.invariant_of-taker
invariant_of-taker g c =
    let receiver = c.meet-2.ensures.receiver in
    record { all = rw (receiver.1, receiver.2) c.args.taker.now.all }
