use Rattle.std.proofs.Common.{ap, sym, ◌∙◌, ◌≡◌, ◌+◌, ◌++◌, ◌∷◌, [], false, length, append_assoc, append-nil}
use Rattle.std.proofs.lemmas.Bool.{le-ltb}
use Rattle.lanes.specs.Messages.{items_of}
use Rattle.lanes.specs.Rings.{items_sent}
use Rattle.lanes.specs.Ends.{feeder_end, stays_open}
use Rattle.lanes.proofs.MessageLemmas.{none_of}
use Rattle.lanes.proofs.feeder.Feeder.offer.Goals as goal

pub returns-clause-fed : goal.returns-clause-fed
returns-clause-fed g c =
    let old = c.args.self.now in
    let full : stays_open old ≡ false = rw (sym c.len.ensures.value, sym c.get.ensures.value) (le-ltb (c.len.result + 1) c.get.result c.if-len-get.false) in
    let none = ap (λ m. m.items) c.send.ensures.hand in (
      none_of (feeder_end old) (sym c.is_closed.ensures ∙ c.if-is_closed.false),
      ap (λ l. items_sent c.send.new.self ++ l) none ∙ append-nil (items_sent c.send.new.self) ∙ c.send.ensures.items
          ∙ ap (λ s. items_of s ++ c.push-2.new.self.items) c.has_room.ensures.sent
          ∙ ap (λ l. items_sent old.sender ++ l) (ap (λ m. m.items) c.push-2.ensures ∙ ap (λ h. h.items ++ c.args.item ∷ []) c.has_room.ensures.hand)
          ∙ sym (append_assoc (items_sent old.sender) old.sender.hand.items (c.args.item ∷ [])),
      rw full none,
      rw full (c.send.ensures.count ∙ ap (λ s. length s + 1) c.has_room.ensures.sent),
    )
