-- Messages that came one after the other.
use Rattle.std.proofs.Common.{arith, ◌≡◌, true, false, List, [], ◌∷◌, ◌++◌, Option, Some, None, ◌<◌, ◌≤◌, length, refl, ap, sym, subst, ◌∙◌, append-nil}
use Rattle.std.proofs.lemmas.Bool.{true≢false}
use Rattle.std.specs.Prelude.{is_some}
use Rattle.lanes.specs.Messages.{MessageValue, EndsLast, IsFilled, first_end, items_of, end_of, are_none}

module _ {E : Type 0} where
  -- two ends are none only if both are
  pub ends_none : (first later : Option E) → first_end first later ≡ None → (first ≡ None) × (later ≡ None)
  ends_none None later none = (refl, none)
  ends_none (Some end) later none = absurd (grind (arith, none))

  pub none_of : (end : Option E) → is_some end ≡ false → end ≡ None
  none_of None none = refl
  none_of (Some end) none = absurd (grind (arith, none))

  pub first_end-none : (first : Option E) → first_end first None ≡ first
  first_end-none None = refl
  first_end-none (Some end) = refl

module _ {T : Type 0} where
  pub some_left : (items : List T) → 0 < length items → are_none items ≡ false
  some_left [] some = absurd (omega (arith, some))
  some_left (item ∷ items) some = refl

  pub none_left : (items : List T) → length items ≤ 0 → items ≡ []
  none_left [] none = refl
  none_left (item ∷ items) none = absurd (omega (arith, none))

module _ {T E : Type 0} where
  -- a message that got an item is filled
  pub filled-pushed : (before : List T) (item : T) (after : MessageValue T E) → after.items ≡ before ++ item ∷ [] → IsFilled after
  filled-pushed before item after is = λ none _. by before (sym is ∙ none)
    where
      by : (items : List T) → items ++ item ∷ [] ≡ [] → ⊥
      by [] e = grind (arith, e)
      by (first ∷ items) e = grind (arith, e)

  -- after messages without an end the end is that of the next
  pub end_of-append : (messages : List (MessageValue T E)) (next : MessageValue T E) → end_of messages ≡ None
      → end_of (messages ++ next ∷ []) ≡ next.ending
  end_of-append [] next unended = first_end-none next.ending
  end_of-append (message ∷ messages) next unended =
      let none = ends_none message.ending (end_of messages) unended in
      rw none.0 (end_of-append messages next none.1)

  -- after messages without an end one more may come
  pub ends_last-append : (messages : List (MessageValue T E)) (next : MessageValue T E) → end_of messages ≡ None → EndsLast (messages ++ next ∷ [])
  ends_last-append messages next unended [] back e some = absurd (true≢false (sym some))
  ends_last-append [] next unended (m ∷ []) [] e some = refl
  ends_last-append [] next unended (m ∷ n ∷ front) back e some = absurd (grind (arith, e))
  ends_last-append [] next unended (m ∷ []) (n ∷ back) e some = absurd (grind (arith, e))
  ends_last-append (message ∷ messages) next unended (m ∷ front) back e some =
      let none = ends_none message.ending (end_of messages) unended in
      let same : m ≡ message = grind (arith, e) in
      let rest : front ++ back ≡ messages ++ next ∷ [] = grind (arith, e) in
      ends_last-append messages next none.1 front back rest
      (subst (λ x. is_some x ≡ true) (ap (λ x. first_end x.ending (end_of front)) same ∙ ap (λ x. first_end x (end_of front)) none.0) some)

  none_are_none : (messages : List (MessageValue T E)) → are_none messages ≡ true → messages ≡ []
  none_are_none [] none = refl
  none_are_none (message ∷ messages) none = absurd (grind (arith, none))

  -- if an end came, all that was sent came
  pub met_whole : (came more all : List (MessageValue T E)) → came ++ more ≡ all → EndsLast all → is_some (end_of came) ≡ true
      → (items_of came ≡ items_of all) × (end_of came ≡ end_of all)
  met_whole came more all e last closed =
      let none : more ≡ [] = none_are_none more (last came more e closed) in
      let whole : came ≡ all = sym (append-nil came) ∙ ap (λ m. came ++ m) (sym none) ∙ e in
      (ap items_of whole, ap end_of whole)
