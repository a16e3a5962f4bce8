use Rattle.std.proofs.Common.{◌+◌, ◌++◌, ◌∷◌, [], length, sym, ap, ◌∙◌, append-nil}
use Rattle.std.proofs.lemmas.Grind.{flat_map-append}
use Rattle.std.proofs.lemmas.List.{length-append}
use Rattle.rtrb.specs.Ring.{received}
use Rattle.lanes.specs.Messages.{end_of, items_of}
use Rattle.lanes.proofs.MessageLemmas.{end_of-append}
use Rattle.lanes.proofs.receiver.Receiver.receive.Goals as goal

pub invariant_of-self-2 : goal.invariant_of-self-2
invariant_of-self-2 g c =
    record { told = rw (c.pop.ensures.received) (sym (end_of-append (received c.is_empty.new.self) c.pop.new.hand (ap end_of c.is_empty.ensures.looked.1 ∙ c.requires))) }

pub returns-clause-received : goal.returns-clause-received
returns-clause-received g c = λ _. c.pop.ensures.received ∙ ap (λ r. r ++ c.pop.new.hand ∷ []) c.is_empty.ensures.looked.1

pub returns-clause-items : goal.returns-clause-items
returns-clause-items g c = λ _.
    ap items_of c.pop.ensures.received ∙ flat_map-append (λ message. message.items) (received c.is_empty.new.self) (c.pop.new.hand ∷ [])
    ∙ ap (λ more. items_of (received c.is_empty.new.self) ++ more) (append-nil c.pop.new.hand.items)
    ∙ ap (λ r. items_of r ++ c.pop.new.hand.items) c.is_empty.ensures.looked.1

pub returns-clause-ended : goal.returns-clause-ended
returns-clause-ended g c = λ _.
    ap end_of c.pop.ensures.received ∙ end_of-append (received c.is_empty.new.self) c.pop.new.hand (ap end_of c.is_empty.ensures.looked.1 ∙ c.requires)

pub returns-clause-count : goal.returns-clause-count
returns-clause-count g c = λ _.
    ap length c.pop.ensures.received ∙ length-append (received c.is_empty.new.self) (c.pop.new.hand ∷ [])
    ∙ ap (λ r. length r + 1) c.is_empty.ensures.looked.1
