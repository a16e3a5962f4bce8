use Rattle.std.proofs.Common.{ap, subst, sym, refl, ◌≡◌, ◌∙◌, ◌++◌, ◌∷◌, []}
use Rattle.lanes.specs.Rings.{end_sent}
use Rattle.lanes.specs.Turns.{IsOrderly}
use Rattle.lanes.specs.Ends.{state_of}
use Rattle.lanes.proofs.MessageLemmas.{filled-pushed}
use Rattle.lanes.proofs.TurnLemmas.{set_state, set_in_hand, orderly_set, with_line-going, with_line-unmade, unmade-undone, unsent, moves_on, moves_setting}
use Rattle.lanes.proofs.setter.Setter.set_first.Goals as goal

pub finish-self-requires : goal.finish-self-requires
finish-self-requires g c = ap (λ m. m.ending) c.push.ensures ∙ c.args.self.now.in_hand.1 c.requires.ready

pub invariant_of-self-in-Ok-2-clause-in_hand : goal.invariant_of-self-in-Ok-2-clause-in_hand
invariant_of-self-in-Ok-2-clause-in_hand g c =
    let old = c.args.self.now in
    let rest = c.take_first.new.self in
    let lines = ap (λ m. m.items) c.in-Some.ensures in
    set_in_hand g.M.Making.slots old.receiver.hand.items c.in-Some.line rest c.in-Ok.answer old.sender.hand c.finish-self.new.answers
    (end_sent old.sender) c.finish-self.result lines old.in_hand.0 (c.finish-self.ensures.items ∙ ap (λ m. m.items) c.push.ensures)
    c.finish-self.ensures.ready c.finish-self.ensures.ending
    (unsent (state_of old) (end_sent old.sender) old.sender.hand.ending refl (with_line-unmade (state_of old) c.in-Some.line rest.items lines old.orderly))

pub invariant_of-self-in-Ok-2-clause-orderly : goal.invariant_of-self-in-Ok-2-clause-orderly
invariant_of-self-in-Ok-2-clause-orderly g c =
    let old = c.args.self.now in
    let rest = c.take_first.new.self in
    let lines = ap (λ m. m.items) c.in-Some.ensures in
    subst IsOrderly (sym (set_state (state_of old) (g.M.Making.makes c.make.new.self) c.in-Some.line rest c.finish-self.new.answers (end_sent old.sender)
    c.finish-self.result c.make.ensures.kept (sym (ap (λ m. m.ending) c.in-Some.ensures) ∙ old.receiver.told)
    (unsent (state_of old) (end_sent old.sender) old.sender.hand.ending refl (with_line-unmade (state_of old) c.in-Some.line rest.items lines old.orderly))
    (c.finish-self.ensures.items ∙ ap (λ m. m.items) c.push.ensures ∙ ap (λ a. old.sender.hand.items ++ a ∷ []) c.in-Ok.ensures.made)
    c.finish-self.ensures.ready c.finish-self.ensures.ending))
    (orderly_set (state_of old) c.in-Some.line rest.items lines (with_line-going (state_of old) c.in-Some.line rest.items lines old.orderly) old.orderly)

pub invariant_of-self-in-Ok-2-clause-filled : goal.invariant_of-self-in-Ok-2-clause-filled
invariant_of-self-in-Ok-2-clause-filled g c = λ _.
    filled-pushed c.args.self.now.sender.hand.items c.in-Ok.answer c.finish-self.new.answers
    (c.finish-self.ensures.items ∙ ap (λ m. m.items) c.push.ensures)

pub returns-in-Ok-clause-turn : goal.returns-in-Ok-clause-turn
returns-in-Ok-clause-turn g c =
    let old = c.args.self.now in
    let rest = c.take_first.new.self in
    let lines = ap (λ m. m.items) c.in-Some.ensures in
    let unmade = with_line-unmade (state_of old) c.in-Some.line rest.items lines old.orderly in (
      unmade-undone (state_of old) unmade,
      moves_on (state_of old) _ c.requires.ready (moves_setting (state_of old) _ c.in-Some.line rest.items lines
          (set_state (state_of old) (g.M.Making.makes c.make.new.self) c.in-Some.line rest c.finish-self.new.answers (end_sent old.sender)
          c.finish-self.result c.make.ensures.kept (sym (ap (λ m. m.ending) c.in-Some.ensures) ∙ old.receiver.told)
          (unsent (state_of old) (end_sent old.sender) old.sender.hand.ending refl unmade)
          (c.finish-self.ensures.items ∙ ap (λ m. m.items) c.push.ensures ∙ ap (λ a. old.sender.hand.items ++ a ∷ []) c.in-Ok.ensures.made)
          c.finish-self.ensures.ready c.finish-self.ensures.ending)),
    )

pub invariant_of-self-in-Err : goal.invariant_of-self-in-Err
invariant_of-self-in-Err g c =
    let old = c.args.self.now in
    let back : c.put_back.new.self ≡ old.receiver.hand =
    c.put_back.ensures ∙ ap (λ line. record { items = line ∷ c.take_first.new.self.items; ending = c.take_first.new.self.ending }) c.in-Err.ensures.back
    ∙ sym c.in-Some.ensures in
    ((ap (λ m. m.ending) back ∙ old.receiver.told, tt), (rw back old.in_hand, (rw (back, c.in-Err.ensures.kept) old.orderly, (old.filled, tt))))
