-- Answers that come out, one after the other.
use Rattle.std.proofs.Common.{arith, ◌≡◌, ℕ, ◌+◌, ◌-◌, Bool, true, false, List, [], ◌∷◌, ◌++◌, length, take, Option, Some, None, refl, ap, sym, subst, ◌∙◌, append_assoc}
use Rattle.std.proofs.lemmas.Bool.{true≢false}
use Rattle.std.specs.Prelude.{is_some, if◌then◌else◌}
use Rattle.std.specs.Option.{unwrap_or}
use Rattle.lanes.specs.Takes.{TakerState, Takes, TakesFrom, IsTakenFromHand, popped_for}
use Rattle.lanes.specs.declared.took.Took.{Took}
use Rattle.lanes.specs.declared.took.Took.TheVariants.{Nothing, Answer, End}
use Rattle.lanes.specs.declared.ending.LaneEnd.{LaneEnd}
use Rattle.lanes.proofs.LaneLemmas.{taken_front}

module _ {O : Type 0} where
  -- what was taken, if some answers of all are held
  abbrev taken_of : List O → List O → List O
  taken_of all held = take (length all - length held) all

  pub taken_next : (all held rest : List O) (answer : O) → held ≡ answer ∷ rest → taken_of all held ++ held ≡ all
      → taken_of all rest ≡ taken_of all held ++ answer ∷ []
  taken_next all held rest answer is whole =
      let moved : (taken_of all held ++ answer ∷ []) ++ rest ≡ all =
      append_assoc (taken_of all held) (answer ∷ []) rest ∙ ap (λ h. taken_of all held ++ h) (sym is) ∙ whole in
      taken_front all (taken_of all held ++ answer ∷ []) rest moved

  pub taken_whole : (all held rest : List O) (answer : O) → held ≡ answer ∷ rest → taken_of all held ++ held ≡ all
      → taken_of all rest ++ rest ≡ all
  taken_whole all held rest answer is whole =
      ap (λ t. t ++ rest) (taken_next all held rest answer is whole)
      ∙ append_assoc (taken_of all held) (answer ∷ []) rest ∙ ap (λ h. taken_of all held ++ h) (sym is) ∙ whole

  -- a taker that has ended holds nothing
  pub holding-unended : (ended : Bool) (held rest : List O) (answer : O) → (ended ≡ true → held ≡ []) → held ≡ answer ∷ rest
      → ended ≡ false
  holding-unended false held rest answer none is = refl
  holding-unended true held rest answer none is = let empty = none refl in absurd (grind (arith, empty, is))

  pub takes_held : (all held rest : List O) (answer : O) (ending : Option LaneEnd) (ended : Bool) (popped : ℕ) → held ≡ answer ∷ rest
      → TakesFrom held answer (record { taken = taken_of all held; held = held; ending = ending; ended = ended; popped = popped })
      (record { taken = taken_of all rest; held = rest; ending = ending; ended = ended; popped = popped })
  takes_held all held rest answer ending ended popped is = by held is
    where
      by : (list : List O) → list ≡ answer ∷ rest
          → TakesFrom list answer (record { taken = taken_of all held; held = held; ending = ending; ended = ended; popped = popped })
          (record { taken = taken_of all rest; held = rest; ending = ending; ended = ended; popped = popped })
      by [] e = absurd (grind (arith, e))
      by (first ∷ others) e =
          let same : answer ≡ first = grind (arith, e) in
          let rests : rest ≡ others = grind (arith, e) in
          (same, rests, refl, refl)

  -- a message that was received, or none, is all that is held
  pub all_received : (answer : Bool) (before after held_before held_after : List O) (ended : Bool) (ending : Option LaneEnd) → ended ≡ false
      → taken_of before held_before ++ held_before ≡ before → (answer ≡ true → after ≡ before ++ held_after)
      → (answer ≡ false → after ≡ before) → (answer ≡ false → held_after ≡ held_before)
      → (taken_of after held_after ++ held_after ≡ after) × (ended ≡ true → held_after ≡ []) × (ended ≡ true → is_some ending ≡ true)
  all_received true before after held_before held_after ended ending unended whole came same kept =
      let e = came refl in
      let front = taken_front after before held_after (sym e) in (
        ap (λ t. t ++ held_after) front ∙ sym e,
        (λ up. absurd (grind (arith, up, unended))),
        (λ up. absurd (grind (arith, up, unended))),
      )
  all_received false before after held_before held_after ended ending unended whole came same kept =
      let e = same refl in
      let h = kept refl in (
        rw (e, h) whole,
        (λ up. absurd (grind (arith, up, unended))),
        (λ up. absurd (grind (arith, up, unended))),
      )

-- no message is counted after the one with the end
end_popped : (ending : Option LaneEnd) (popped : ℕ) → (ending ≡ None → ⊥) → (if is_some ending then popped else popped + 1) ≡ popped
end_popped None popped some = absurd (some refl)
end_popped (Some end) popped some = refl

module _ {O : Type 0} where
  -- nothing more is received while a result of a message is held
  held_popped : (held : List O) (answer : O) (s t : TakerState O) → s.held ≡ held → (s.held ≡ [] → s.ending ≡ None → ⊥)
      → TakesFrom held answer s t → t.popped ≡ s.popped
  held_popped [] answer s t is filled (ending, more) = absurd (filled is ending)
  held_popped (first ∷ rest) answer s t is filled (same, left, ending, popped) = popped

  -- what is taken of a message that was just received
  pub takes_received : (right : O → Type 0) (old s t : TakerState O) (result : Option (Took O))
      → old.held ≡ [] → old.ending ≡ None → old.ended ≡ false → s.taken ≡ old.taken → s.popped ≡ old.popped + 1
      → (s.held ≡ [] → s.ending ≡ None → ⊥) → IsTakenFromHand right s result t → Takes right old (unwrap_or result Nothing) t
  takes_received right old s t None held ending ended same count filled took = absurd (filled took.1 took.2)
  takes_received right old s t (Some Nothing) held ending ended same count filled took = absurd (took.1 refl)
  takes_received right old s t (Some (Answer answer)) held ending ended same count filled ((is, unended, still, taken, from), some) = (
    is,
    ended,
    still,
    taken ∙ ap (λ l. l ++ answer ∷ []) same,
    subst (λ l. TakesFrom l answer old t) (sym held) (ending, held_popped s.held answer s t refl filled from ∙ count),
  )
  takes_received right old s t (Some (End end)) held ending ended same count filled ((none, first, moved, again), some) =
      let popped : popped_for s ≡ popped_for old =
      end_popped s.ending s.popped (filled none) ∙ count ∙ sym (ap (λ e. if is_some e then old.popped else old.popped + 1) ending) in (
        held,
        rw ending refl,
        moved ∙ ap (λ l. record { taken = l; held = []; ending = Some end; ended = true; popped = popped_for s }) same
            ∙ ap (λ n. record { taken = old.taken; held = []; ending = Some end; ended = true; popped = n }) popped,
        (λ up. absurd (true≢false (sym up ∙ ended))),
      )
