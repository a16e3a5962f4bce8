-- Each move keeps a setter orderly.
use Rattle.std.proofs.Common.{arith, ◌≡◌, ℕ, suc, ◌+◌, ◌≤◌, Bool, true, false, List, [], ◌∷◌, ◌++◌, length, drop, Option, Some, None, refl, ap, sym, subst, ◌∙◌, length-append, append_assoc, append-nil}
use Rattle.std.proofs.lemmas.List.{drop-append-le}
use Rattle.std.specs.Prelude.{◌&&◌, not, is_some, Result, Ok, Err, IfOk, OnErr}
use Rattle.lanes.specs.Messages.{MessageValue, IsFilled, first_end, are_none, nothing}
use Rattle.lanes.specs.Lane.{lane_end_of}
use Rattle.lanes.specs.Turns.{SetterState, IsOrderly, after_send, after_set, after_message, after_dropping, after_receipt, is_given_up, is_done, end_with, Moves, MovesOn, Turns}
use Rattle.lanes.specs.declared.turn.Turn.{Turn}
use Rattle.lanes.specs.declared.turn.Turn.TheVariants.{Idle, Moved, Blocked, Done}
use Rattle.lanes.specs.declared.ending.SourceEnd.{SourceEnd}
use Rattle.lanes.specs.declared.ending.SourceEnd.TheVariants.{Complete as SourceComplete, Failed}
use Rattle.lanes.specs.declared.ending.LaneEnd.{LaneEnd}
use Rattle.lanes.specs.declared.ending.LaneEnd.TheVariants.{GaveUp}
use Rattle.std.proofs.lemmas.Bool.{true≢false}
use Rattle.lanes.proofs.MessageLemmas.{ends_none, first_end-none, none_of}
use Rattle.lanes.proofs.LaneLemmas.{answers_few, answers_more, answers_next, drop_next}

module _ {I : Type 0} where
  -- the end of a source is no giving up
  pub source_end-not_given_up : (lines : List I) (source : Option SourceEnd) → is_given_up (end_with lines source) ≡ false
  source_end-not_given_up [] None = refl
  source_end-not_given_up [] (Some SourceComplete) = refl
  source_end-not_given_up [] (Some (Failed fault)) = refl
  source_end-not_given_up (line ∷ lines) source = refl

module _ {I O : Type 0} where
  pub orderly_send : (s : SetterState I O) → IsOrderly s → IsOrderly (after_send s)
  orderly_send s (answered, in_hand, made, dropped, quiet) =
      let whole : (s.given ++ s.answers) ++ [] ≡ s.given ++ s.answers = append-nil (s.given ++ s.answers) in
      rw whole (answered, in_hand, made, dropped, λ _ _. refl)

  pub orderly_set : (s : SetterState I O) (line : I) (rest : List I) → s.lines ≡ line ∷ rest → is_given_up s.made ≡ false → IsOrderly s
      → IsOrderly (after_set s line rest)
  orderly_set s line rest lines going (answered, in_hand, made, dropped, quiet) =
      let done : List O = s.given ++ s.answers in
      let next : drop (length done) s.seen ≡ line ∷ rest = sym (in_hand going) ∙ lines in
      let whole : s.given ++ (s.answers ++ s.makes line ∷ []) ≡ done ++ s.makes line ∷ [] = sym (append_assoc s.given s.answers (s.makes line ∷ [])) in
      let count : length (done ++ s.makes line ∷ []) ≡ length done + 1 = length-append done (s.makes line ∷ []) in
      let further : drop (length (done ++ s.makes line ∷ [])) s.seen ≡ rest = rw count (drop_next (length done) s.seen rest line next) in
      rw whole (
        answers_next s.makes done s.seen rest line answered next,
        (λ _. sym further),
        (λ _. refl),
        (λ up. absurd (false_or_true up)),
        (λ unready none. absurd (some_left rest unready none)),
      )
    where
      false_or_true : is_given_up (end_with rest s.source) ≡ true → ⊥
      false_or_true up = let e = source_end-not_given_up rest s.source in grind (arith, up, e)

      some_left : (rest : List I) → are_none rest ≡ false → rest ≡ [] → ⊥
      some_left rest unready none = grind (arith, unready, none)

  orderly_message : (s : SetterState I O) (m : MessageValue I SourceEnd) → s.lines ≡ [] → s.answers ≡ [] → is_given_up s.made ≡ false → IsOrderly s
      → IsOrderly (after_message s m)
  orderly_message s m none quiet going (answered, in_hand, made, dropped, _) =
      let done : List O = s.given ++ s.answers in
      let few : length done ≤ length s.seen = answers_few s.makes done s.seen answered in
      let further : drop (length done) (s.seen ++ m.items) ≡ m.items =
      drop-append-le (length done) s.seen m.items few ∙ ap (λ l. l ++ m.items) (sym (in_hand going) ∙ none) in (
        answers_more s.makes done s.seen m.items answered,
        (λ _. sym further),
        (λ _. refl),
        (λ up. absurd (false_or_true up)),
        (λ _ _. quiet),
      )
    where
      false_or_true : is_given_up (end_with m.items m.ending) ≡ true → ⊥
      false_or_true up = let e = source_end-not_given_up m.items m.ending in grind (arith, up, e)

  orderly_dropping : (s : SetterState I O) (m : MessageValue I SourceEnd) → is_given_up s.made ≡ true → IsOrderly s → IsOrderly (after_dropping s m)
  orderly_dropping s m up (answered, in_hand, made, dropped, quiet) = (
    answers_more s.makes (s.given ++ s.answers) s.seen m.items answered,
    (λ going. absurd (grind (arith, going, up))),
    (λ going. absurd (grind (arith, going, up))),
    dropped,
    quiet,
  )

  pub orderly_receipt : (s : SetterState I O) (m : MessageValue I SourceEnd) → s.lines ≡ [] → s.ready ≡ false → IsOrderly s → IsOrderly (after_receipt s m)
  orderly_receipt s m none unready orderly = by (is_given_up s.made) refl
    where
      by : (up : Bool) → is_given_up s.made ≡ up → IsOrderly (after_receipt s m)
      by true e = rw e (orderly_dropping s m e orderly)
      by false e = rw e (orderly_message s m none (orderly.4 unready none) e orderly)

  pub orderly_given_up : (s : SetterState I O) → s.made ≡ None → IsOrderly s → IsOrderly (record s { lines = []; ready = true; made = Some GaveUp })
  orderly_given_up s none (answered, in_hand, made, dropped, quiet) = (
    answered,
    (λ going. absurd (grind (arith, going))),
    (λ going. absurd (grind (arith, going))),
    (λ _. refl),
    (λ unready. absurd (grind (arith, unready))),
  )

-- ---- what a setter is after its moves

module _ {I O : Type 0} where
  -- a setter with a line in hand isn't given up
  pub with_line-going : (s : SetterState I O) (line : I) (rest : List I) → s.lines ≡ line ∷ rest → IsOrderly s → is_given_up s.made ≡ false
  with_line-going s line rest lines orderly = by (is_given_up s.made) refl
    where
      by : (up : Bool) → is_given_up s.made ≡ up → up ≡ false
      by false e = refl
      by true e = let none = orderly.3 e in absurd (grind (arith, lines, none))

  -- with a line in hand no end was made
  pub with_line-unmade : (s : SetterState I O) (line : I) (rest : List I) → s.lines ≡ line ∷ rest → IsOrderly s → s.made ≡ None
  with_line-unmade s line rest lines orderly =
      orderly.2 (with_line-going s line rest lines orderly) ∙ ap (λ l. end_with l s.source) lines

  -- before the source's end, with no line in hand, none was made either
  pub before_end-unmade : (s : SetterState I O) → s.lines ≡ [] → s.source ≡ None → is_given_up s.made ≡ false → IsOrderly s → s.made ≡ None
  before_end-unmade s lines source going orderly = let made = orderly.2 going in rw (made, lines, source) refl

  -- of an end that wasn't made none was sent
  pub unsent : (s : SetterState I O) (sent before : Option LaneEnd) → s.made ≡ first_end sent before → s.made ≡ None → sent ≡ None
  unsent s sent before is unmade = (ends_none sent before (sym is ∙ unmade)).0

  pub set_state : (s : SetterState I O) (makes : I → O) (line : I) (rest : MessageValue I SourceEnd) (answers : MessageValue O LaneEnd)
      (sent : Option LaneEnd) (ready : Bool)
      → makes ≡ s.makes → rest.ending ≡ s.source → sent ≡ None
      → answers.items ≡ s.answers ++ s.makes line ∷ [] → ready ≡ are_none rest.items → answers.ending ≡ end_with rest.items rest.ending
      → record s { makes = makes; lines = rest.items; answers = answers.items; ready = ready; made = first_end sent answers.ending }
      ≡ after_set s line rest.items
  set_state s makes line rest answers sent ready kept source none items is_ready ending = rw (kept, items, is_ready, ending, none, source) refl

  -- a setter that gives up
  pub given_up_state : (s : SetterState I O) (rest : MessageValue I SourceEnd) (answers : MessageValue O LaneEnd) (sent before : Option LaneEnd)
      → s.made ≡ first_end sent before → is_some s.made ≡ false → rest.items ≡ [] → answers.items ≡ s.answers
      → answers.ending ≡ Some GaveUp
      → record s { lines = rest.items; answers = answers.items; ready = true; made = first_end sent answers.ending }
      ≡ record s { lines = []; ready = true; made = Some GaveUp }
  given_up_state s rest answers sent before made unmade none items ending =
      let both = ends_none sent before (sym made ∙ none_of s.made unmade) in
      rw (none, items, ending, both.0) refl

  -- a setter that sends
  pub sent_state : (s : SetterState I O) (given : List O) (next : MessageValue O LaneEnd) (ended sent before : Option LaneEnd) (pushed : ℕ)
      → s.made ≡ first_end sent before → sent ≡ None → given ≡ s.given ++ s.answers → next ≡ nothing → ended ≡ before → pushed ≡ s.pushed + 1
      → record s { given = given; answers = next.items; ready = false; made = first_end ended next.ending; pushed = pushed } ≡ after_send s
  sent_state s given next ended sent before pushed made unsent is empty end count =
      rw (is, empty, count)
      (ap (λ m. record s { given = s.given ++ s.answers; answers = []; ready = false; made = m; pushed = s.pushed + 1 })
      (first_end-none ended ∙ end ∙ ap (λ e. first_end e before) (sym unsent) ∙ sym made))

  pub message_state : (s : SetterState I O) (m : MessageValue I SourceEnd) (answers : MessageValue O LaneEnd)
      (sent : Option LaneEnd) (ready : Bool) (seen : List I) (source : Option SourceEnd) (popped : ℕ)
      → is_given_up s.made ≡ false → sent ≡ None → answers.items ≡ s.answers → ready ≡ are_none m.items
      → answers.ending ≡ end_with m.items m.ending → seen ≡ s.seen ++ m.items → source ≡ m.ending → popped ≡ s.popped + 1
      → record s { seen = seen; source = source; lines = m.items; answers = answers.items; ready = ready; made = first_end sent answers.ending; popped = popped }
      ≡ after_receipt s m
  message_state s m answers sent ready seen source popped going none items is_ready ending e f g =
      rw (going, items, is_ready, ending, none, e, f, g) refl

  -- a setter without a line in hand, with no ready message, that isn't done, has not seen the source's end
  pub undone-before_end : (s : SetterState I O) → s.lines ≡ [] → s.ready ≡ false → is_done s ≡ false → IsOrderly s → s.source ≡ None
  undone-before_end s lines ready undone orderly = by s.source refl (is_given_up s.made) refl
    where
      made_then : (source : Option SourceEnd) (made : Option LaneEnd) → s.source ≡ source → s.made ≡ made
          → is_some source && (is_some made && not s.ready) ≡ false
      made_then source made e f = sym (rw (sym e, sym f) refl) ∙ undone

      by : (source : Option SourceEnd) → s.source ≡ source → (up : Bool) → is_given_up s.made ≡ up → source ≡ None
      by None e up f = refl
      by (Some end) e false f =
          let made : s.made ≡ Some (lane_end_of end) = orderly.2 f ∙ rw (lines, e) refl in
          let not_yet = made_then (Some end) (Some (lane_end_of end)) e made in
          absurd (grind (arith, not_yet, ready))
      by (Some end) e true f = absurd (given_up_made s.made refl f)
        where
          given_up_made : (made : Option LaneEnd) → s.made ≡ made → is_given_up made ≡ true → ⊥
          given_up_made None g up = grind (arith, up)
          given_up_made (Some some) g up = let not_yet = made_then (Some end) (Some some) e g in grind (arith, not_yet, ready)

-- ---- what is in its hands then

module _ {I : Type 0} where
  -- with a line in hand the end isn't made yet
  still : (lines : List I) (source : Option SourceEnd) (ending : Option LaneEnd) (ready : Bool) → ready ≡ are_none lines
      → ending ≡ end_with lines source → ready ≡ false → ending ≡ None
  still [] source ending ready is_ready is unready = absurd (grind (arith, is_ready, unready))
  still (line ∷ lines) source ending ready is_ready is unready = is

module _ {I O : Type 0} where
  pub set_in_hand : (slots : ℕ) (lines : List I) (line : I) (rest : MessageValue I SourceEnd) (answer : O)
      (before after : MessageValue O LaneEnd) (sent : Option LaneEnd) (ready : Bool)
      → lines ≡ line ∷ rest.items → length lines + length before.items ≤ slots → after.items ≡ before.items ++ answer ∷ []
      → ready ≡ are_none rest.items → after.ending ≡ end_with rest.items rest.ending → sent ≡ None
      → (length rest.items + length after.items ≤ slots) × (ready ≡ false → after.ending ≡ None) × (ready ≡ true → sent ≡ None)
  set_in_hand slots lines line rest answer before after sent ready is room items is_ready ending none =
      let count : length after.items ≡ length before.items + 1 = ap length items ∙ length-append before.items (answer ∷ []) in
      let more : length lines ≡ suc (length rest.items) = ap length is in
      (omega (arith, count, more, room), still rest.items rest.ending after.ending ready is_ready ending, λ _. none)

  pub given_up_in_hand : (slots : ℕ) (lines : List I) (rest : MessageValue I SourceEnd) (before after : MessageValue O LaneEnd) (sent : Option LaneEnd)
      → length lines + length before.items ≤ slots → rest.items ≡ [] → after.items ≡ before.items
      → is_some (first_end sent before.ending) ≡ false
      → (length rest.items + length after.items ≤ slots) × (true ≡ false → after.ending ≡ None) × (true ≡ true → sent ≡ None)
  given_up_in_hand slots lines rest before after sent room none items unmade =
      let count : length rest.items ≡ 0 = ap length none in
      let same : length after.items ≡ length before.items = ap length items in (
        omega (arith, room, count, same),
        (λ e. absurd (true≢false e)),
        (λ _. (ends_none sent before.ending (none_of (first_end sent before.ending) unmade)).0),
      )

  pub sent_in_hand : (slots : ℕ) (lines : List I) (before next : MessageValue O LaneEnd) (sent : Option LaneEnd) → length lines + length before.items ≤ slots
      → next ≡ nothing → (length lines + length next.items ≤ slots) × (false ≡ false → next.ending ≡ None) × (false ≡ true → sent ≡ None)
  sent_in_hand slots lines before next sent room empty =
      let count : length next.items ≡ 0 = ap (λ m. length m.items) empty in (
        omega (arith, room, count),
        (λ _. ap (λ m. m.ending) empty),
        (λ e. absurd (true≢false (sym e))),
      )

  pub message_in_hand : (slots : ℕ) (m : MessageValue I SourceEnd) (before after : MessageValue O LaneEnd) (sent : Option LaneEnd) (ready : Bool)
      → length m.items ≤ slots → before.items ≡ [] → after.items ≡ before.items → ready ≡ are_none m.items
      → after.ending ≡ end_with m.items m.ending → sent ≡ None
      → (length m.items + length after.items ≤ slots) × (ready ≡ false → after.ending ≡ None) × (ready ≡ true → sent ≡ None)
  message_in_hand slots m before after sent ready few nothing items is_ready ending none =
      let count : length after.items ≡ 0 = ap length (items ∙ nothing) in
      (omega (arith, count, few), still m.items m.ending after.ending ready is_ready ending, λ _. none)

  -- a message without a line has an end, and so has what is ready then
  pub message_filled : (m : MessageValue I SourceEnd) (after : MessageValue O LaneEnd) (ready : Bool)
      → IsFilled m → ready ≡ are_none m.items → after.ending ≡ end_with m.items m.ending → ready ≡ true → IsFilled after
  message_filled m after ready filled is_ready ending up = λ _ none. by m.items m.ending filled (sym is_ready ∙ up) (sym ending ∙ none)
    where
      by : (items : List I) (source : Option SourceEnd) → (items ≡ [] → source ≡ None → ⊥) → are_none items ≡ true
          → end_with items source ≡ None → ⊥
      by [] None some _ _ = some refl refl
      by [] (Some end) some _ e = grind (arith, e)
      by (line ∷ lines) source some none _ = grind (arith, none)

-- ---- turns

module _ {I O : Type 0} where
  -- one that has made no end isn't done
  pub unmade-undone : (s : SetterState I O) → s.made ≡ None → is_done s ≡ false
  unmade-undone s none = by s.source s.made none
    where
      by : (source : Option SourceEnd) (made : Option LaneEnd) → made ≡ None → is_some source && (is_some made && not s.ready) ≡ false
      by None made e = refl
      by (Some end) None e = refl
      by (Some end) (Some some) e = absurd (grind (arith, e))

  -- one with a ready message isn't done
  pub ready-undone : (s : SetterState I O) → s.ready ≡ true → is_done s ≡ false
  ready-undone s ready = rw ready (by (is_some s.source) (is_some s.made))
    where
      by : (source made : Bool) → source && (made && false) ≡ false
      by true true = refl
      by true false = refl
      by false made = refl

  pub moves_sending : (s t : SetterState I O) → s.ready ≡ true → t ≡ after_send s → Moves s.ready s t
  moves_sending s t ready is = subst (λ r. Moves r s t) (sym ready) is

  pub moves_setting : (s t : SetterState I O) (line : I) (rest : List I) → s.lines ≡ line ∷ rest → t ≡ after_set s line rest → MovesOn s.lines s t
  moves_setting s t line rest lines is = subst (λ l. MovesOn l s t) (sym lines) is

  pub moves_on : (s t : SetterState I O) → s.ready ≡ false → MovesOn s.lines s t → Moves s.ready s t
  moves_on s t unready on = by s.ready unready
    where
      by : (ready : Bool) → ready ≡ false → Moves ready s t
      by false e = on
      by true e = absurd (grind (arith, e))

  pub moves_receiving : (s t : SetterState I O) (m : MessageValue I SourceEnd) → s.lines ≡ [] → s.source ≡ None → length m.items ≤ 8
      → t ≡ after_receipt s m → MovesOn s.lines s t
  moves_receiving s t m lines source few is = by s.lines lines
    where
      by : (lines : List I) → lines ≡ [] → MovesOn lines s t
      by [] e = (source, (m, few, is))
      by (line ∷ lines) e = absurd (grind (arith, e))

  pub receipt-dropping : (s : SetterState I O) (m : MessageValue I SourceEnd) (seen lines : List I) (source : Option SourceEnd) (popped : ℕ)
      → is_given_up s.made ≡ true → seen ≡ s.seen ++ m.items → source ≡ m.ending → lines ≡ [] → s.lines ≡ [] → popped ≡ s.popped + 1
      → record s { seen = seen; source = source; lines = lines; popped = popped } ≡ after_receipt s m
  receipt-dropping s m seen lines source popped up e f g h i = rw (up, e, f, g, sym h, i) refl

-- ---- whether it gave up stays

module _ {I O : Type 0} where
  receipt-kept : (s : SetterState I O) (m : MessageValue I SourceEnd) → is_given_up (after_receipt s m).made ≡ is_given_up s.made
  receipt-kept s m = by (is_given_up s.made) refl
    where
      by : (up : Bool) → is_given_up s.made ≡ up → is_given_up (after_receipt s m).made ≡ is_given_up s.made
      by true e = rw e e
      by false e = rw e (source_end-not_given_up m.items m.ending)

  moves-kept : (s t : SetterState I O) → IsOrderly s → Moves s.ready s t → is_given_up t.made ≡ is_given_up s.made
  moves-kept s t orderly moves = by s.ready moves
    where
      on : (lines : List I) → s.lines ≡ lines → MovesOn lines s t → is_given_up t.made ≡ is_given_up s.made
      on (line ∷ rest) e is =
          ap (λ x. is_given_up x.made) is ∙ source_end-not_given_up rest s.source ∙ sym (with_line-going s line rest e orderly)
      on [] e (unended, (m, few, is)) = ap (λ x. is_given_up x.made) is ∙ receipt-kept s m

      by : (ready : Bool) → Moves ready s t → is_given_up t.made ≡ is_given_up s.made
      by true is = ap (λ x. is_given_up x.made) is
      by false is = on s.lines refl is

  pub turns_kept : (s t : SetterState I O) (turn : Turn) → IsOrderly s → Turns s turn t → is_given_up t.made ≡ is_given_up s.made
  turns_kept s t Done orderly turns = ap (λ x. is_given_up x.made) turns.0
  turns_kept s t Blocked orderly turns = ap (λ x. is_given_up x.made) turns.0
  turns_kept s t Idle orderly turns = ap (λ x. is_given_up x.made) turns.0
  turns_kept s t Moved orderly turns = moves-kept s t orderly turns.1

  -- the same if an allocation failed
  pub tried_kept : {F : Type 0} (s t : SetterState I O) (result : Result Turn F) → IsOrderly s → IfOk result (λ turn. Turns s turn t)
      → OnErr result (t ≡ s) → is_given_up t.made ≡ is_given_up s.made
  tried_kept s t (Ok turn) orderly turns same = turns_kept s t turn orderly turns
  tried_kept s t (Err fault) orderly turns same = ap (λ x. is_given_up x.made) same

  pub tried_refused : {F : Type 0} (s t : SetterState I O) (result : Result Turn F) → OnErr result (t ≡ s) → is_done s ≡ false
      → s.ready ≡ false → are_none s.lines ≡ false
      → OnErr result ((t ≡ s) × (is_done s ≡ false) × (s.ready ≡ false) × (are_none s.lines ≡ false))
  tried_refused s t (Ok turn) same undone unready some = same
  tried_refused s t (Err fault) same undone unready some = (same, undone, unready, some)
