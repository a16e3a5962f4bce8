use Rattle.std.proofs.Common.{arith, ap, subst, sym, refl, ◌∙◌}
use Rattle.std.proofs.lemmas.Option.{none-some}
use Rattle.lanes.specs.Rings.{end_sent}
use Rattle.lanes.specs.Turns.{IsOrderly}
use Rattle.lanes.specs.Ends.{state_of}
use Rattle.lanes.proofs.MessageLemmas.{none_of}
use Rattle.lanes.proofs.TurnLemmas.{given_up_in_hand, given_up_state, orderly_given_up}
use Rattle.lanes.proofs.setter.Setter.give_up.Goals as goal

pub invariant_of-self-3-clause-in_hand : goal.invariant_of-self-3-clause-in_hand
invariant_of-self-3-clause-in_hand g c =
    let old = c.args.self.now in
    given_up_in_hand g.M.Making.slots old.receiver.hand.items c.clear.new.self old.sender.hand c.finish.new.self (end_sent old.sender) old.in_hand.0
    (ap (λ m. m.items) c.clear.ensures) (ap (λ m. m.items) c.finish.ensures) (sym c.has_made_end.ensures ∙ c.if-has_made_end.false)

pub invariant_of-self-3-clause-orderly : goal.invariant_of-self-3-clause-orderly
invariant_of-self-3-clause-orderly g c =
    let old = c.args.self.now in
    let unmade = sym c.has_made_end.ensures ∙ c.if-has_made_end.false in
    subst IsOrderly
    (sym (given_up_state (state_of old) c.clear.new.self c.finish.new.self (end_sent old.sender) old.sender.hand.ending refl unmade
    (ap (λ m. m.items) c.clear.ensures) (ap (λ m. m.items) c.finish.ensures) (ap (λ m. m.ending) c.finish.ensures)))
    (orderly_given_up (state_of old) (none_of (state_of old).made unmade) old.orderly)

pub invariant_of-self-3-clause-filled : goal.invariant_of-self-3-clause-filled
invariant_of-self-3-clause-filled g c = λ _ _ none. none-some _ (sym none ∙ ap (λ m. m.ending) c.finish.ensures)

pub returns-clause-state : goal.returns-clause-state
returns-clause-state g c = grind arith
