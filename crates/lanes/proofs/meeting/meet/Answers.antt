use Rattle.std.proofs.Common.{rules}
use Rattle.rtrb.specs.Ring.{received, sent, known_items}
use Rattle.lanes.proofs.MessageLemmas.{met_whole}
use Rattle.lanes.proofs.meeting.meet.Goals as goal

pub returns-clause-items : goal.returns-clause-items
returns-clause-items g c = λ closed.
    (met_whole (received c.args.receiver.now.consumer) (known_items c.slots_beside.new.self) (sent c.args.sender.now.producer)
    (search rules) c.args.sender.now.last closed).0

pub returns-clause-ended : goal.returns-clause-ended
returns-clause-ended g c = λ closed.
    (met_whole (received c.args.receiver.now.consumer) (known_items c.slots_beside.new.self) (sent c.args.sender.now.producer)
    (search rules) c.args.sender.now.last closed).1
