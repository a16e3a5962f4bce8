-- The lists of a lane's ends, once these have met.
use Rattle.std.proofs.Common.{arith, ◌≡◌, Bool, true, false, List, [], ◌∷◌, ◌++◌, length, take, drop, Option, Some, None, refl, ap, sym, subst, ◌∙◌, append-nil, take-append-drop}
use Rattle.std.proofs.lemmas.Bool.{true≢false}
use Rattle.std.proofs.lemmas.Option.{none-some}
use Rattle.std.specs.Prelude.{◌&&◌, not, is_some, map, MatchOption, if◌then◌else◌}
use Rattle.std.specs.Option.{option_map}
use Rattle.lanes.specs.Lane.{pipeline, lane_end_of}
use Rattle.lanes.specs.Messages.{first_end}
use Rattle.lanes.specs.Rings.{IsFirstOf, items_sent, items_received, end_sent}
use Rattle.lanes.specs.Ends.{fed, open_lines, feeder_end, state_of, hands_of, taken, taker_end}
use Rattle.lanes.specs.Settled.{HaveMet, IsSettled, is_over}
use Rattle.lanes.specs.declared.feeder.Feeder.{Feeder}
use Rattle.lanes.specs.declared.setter.Setter.{Setter}
use Rattle.lanes.specs.declared.taker.Taker.{Taker}
use Rattle.lanes.specs.Turns.{SetterState, IsOrderly, is_done, is_given_up, end_with}
use Rattle.lanes.specs.declared.ending.SourceEnd.{SourceEnd}
use Rattle.lanes.specs.declared.ending.LaneEnd.{LaneEnd}
use Rattle.lanes.specs.declared.ending.LaneEnd.TheVariants.{Complete, SourceFailed, GaveUp}
use Rattle.lanes.specs.declared.making.Making.{Ghosts}
use Rattle.lanes.proofs.FrontLemmas.{IsFront, first_front, front_pipeline, front_trans, map_front}

module _ {I O : Type 0} where
  -- whatever an end still holds, what was taken are the answers of the first of the lines that were fed
  pub pipeline_holds : (s : SetterState I O) (taken held received : List O) (sent lines : List I) → IsOrderly s
      → taken ++ held ≡ received → IsFirstOf received s.given → IsFirstOf s.seen sent → pipeline s.makes (sent ++ lines) taken
  pipeline_holds s taken held received sent lines orderly whole first seen =
      let done : List O = s.given ++ s.answers in
      let of_received : IsFront taken received = (held, whole) in
      let of_given = front_trans taken received s.given of_received (first_front received s.given first) in
      let of_done : IsFront taken done = front_trans taken s.given done of_given (s.answers, refl) in
      let of_answers : IsFront taken (map s.makes (take (length done) s.seen)) = subst (IsFront taken) orderly.0 of_done in
      let of_seen = front_trans taken (map s.makes (take (length done) s.seen)) (map s.makes s.seen) of_answers
      (map_front s.makes (take (length done) s.seen) s.seen (drop (length done) s.seen, take-append-drop (length done) s.seen)) in
      let fed_front = front_trans s.seen sent (sent ++ lines) (first_front s.seen sent seen) (lines, refl) in
      front_pipeline s.makes (sent ++ lines) taken
      (front_trans taken (map s.makes s.seen) (map s.makes (sent ++ lines)) of_seen (map_front s.makes s.seen (sent ++ lines) fed_front))

-- ---- a setter that is done

both-first : (a b : Bool) → a && b ≡ true → a ≡ true
both-first true b e = refl
both-first false b e = e

both-second : (a b : Bool) → a && b ≡ true → b ≡ true
both-second true b e = e
both-second false b e = absurd (true≢false (sym e))

module _ {I O : Type 0} where
  pub done-source : (s : SetterState I O) → is_done s ≡ true → is_some s.source ≡ true
  done-source s done = both-first (is_some s.source) (is_some s.made && not s.ready) done

  pub done-made : (s : SetterState I O) → is_done s ≡ true → is_some s.made ≡ true
  done-made s done = by (is_some s.source) (is_some s.made) done
    where
      by : (source made : Bool) → source && (made && not s.ready) ≡ true → made ≡ true
      by true true e = refl
      by true false e = e
      by false made e = absurd (true≢false (sym e))

  pub done-unready : (s : SetterState I O) → is_done s ≡ true → s.ready ≡ false
  done-unready s done = by (is_some s.source) (is_some s.made) s.ready done
    where
      by : (source made ready : Bool) → source && (made && not ready) ≡ true → ready ≡ false
      by source made false e = refl
      by true true true e = sym e
      by true false true e = sym e
      by false made true e = sym e

  -- one that is done and didn't give up has no line in hand
  done-no_lines : (s : SetterState I O) → is_done s ≡ true → is_given_up s.made ≡ false → IsOrderly s → s.lines ≡ []
  done-no_lines s done going orderly = by s.lines (sym (orderly.2 going)) (done-made s done)
    where
      by : (lines : List I) → end_with lines s.source ≡ s.made → is_some s.made ≡ true → lines ≡ []
      by [] e made = refl
      by (line ∷ lines) e made = absurd (true≢false (sym made ∙ ap is_some (sym e)))

  -- its end is that of the source
  pub done-end : (s : SetterState I O) → is_done s ≡ true → is_given_up s.made ≡ false → IsOrderly s → s.made ≡ option_map lane_end_of s.source
  done-end s done going orderly =
      orderly.2 going ∙ ap (λ l. end_with l s.source) (done-no_lines s done going orderly)

  -- it has given the answers of all lines it saw
  pub done-given : (s : SetterState I O) → is_done s ≡ true → is_given_up s.made ≡ false → IsOrderly s → s.given ≡ map s.makes s.seen
  done-given s done going orderly =
      let lines = done-no_lines s done going orderly in
      let answers : s.answers ≡ [] = orderly.4 (done-unready s done) lines in
      let all : List O = s.given ++ s.answers in
      let none : drop (length all) s.seen ≡ [] = sym (orderly.1 going) ∙ lines in
      let whole : take (length all) s.seen ≡ s.seen =
      sym (append-nil (take (length all) s.seen)) ∙ ap (λ r. take (length all) s.seen ++ r) (sym none) ∙ take-append-drop (length all) s.seen in
      sym (append-nil s.given) ∙ ap (λ a. s.given ++ a) (sym answers) ∙ orderly.0 ∙ ap (map s.makes) whole

-- an end that was given up
pub given_up-end : (made : Option LaneEnd) (end : LaneEnd) → is_given_up made ≡ true → made ≡ Some end → end ≡ GaveUp
given_up-end None end up e = absurd (true≢false (sym up))
given_up-end (Some Complete) end up e = absurd (true≢false (sym up))
given_up-end (Some (SourceFailed fault)) end up e = absurd (true≢false (sym up))
given_up-end (Some GaveUp) end up e = grind (arith, e)

-- ---- the three ends

module _ {M I O IS OS : Type 0} {ghosts : Ghosts M I O IS OS} where
  pub pipeline_of : (f : Feeder I IS) (s : Setter M I O IS OS ghosts) (t : Taker O OS) → HaveMet f s t → pipeline (state_of s).makes (fed f) (taken t)
  pipeline_of f s t met =
      pipeline_holds (state_of s) (taken t) t.receiver.hand.items (items_received t.receiver) (items_sent f.sender) (open_lines f) s.orderly t.all.0 met.first_answers met.first_lines

-- the end that was taken is the one that was received
ended-ending : (ended : Bool) (ending : Option LaneEnd) (end : LaneEnd) → (if ended then ending else None) ≡ Some end → ending ≡ Some end
ended-ending true ending end e = e
ended-ending false ending end e = absurd (none-some end e)

module _ {M I O IS OS : Type 0} {ghosts : Ghosts M I O IS OS} where
  pub settled_of : (f : Feeder I IS) (s : Setter M I O IS OS ghosts) (t : Taker O OS) (end : LaneEnd) → HaveMet f s t → is_over f s t ≡ true → taker_end t ≡ Some end
      → IsSettled f s t end
  settled_of f s t end met over ending =
      let closed : is_some (feeder_end f) ≡ true = both-first (is_some (feeder_end f)) (is_done (state_of s) && t.ended) over in
      let rest = both-second (is_some (feeder_end f)) (is_done (state_of s) && t.ended) over in
      let done : is_done (state_of s) ≡ true = both-first (is_done (state_of s)) t.ended rest in
      let ended : t.ended ≡ true = both-second (is_done (state_of s)) t.ended rest in
      let came : (hands_of t).ending ≡ Some end = ended-ending t.ended (hands_of t).ending end ending in
      let some : is_some (hands_of t).ending ≡ true = ap is_some came in
      let sent : end_sent s.sender ≡ Some end = sym (met.ending some) ∙ came in
      let made : (state_of s).made ≡ Some end = ap (λ e. first_end e s.sender.hand.ending) sent in
      let source : is_some (state_of s).source ≡ true = done-source (state_of s) done in
      let held : t.receiver.hand.items ≡ [] = t.all.1 ended in
      let whole : taken t ≡ (state_of s).given = sym (append-nil (taken t)) ∙ ap (λ h. taken t ++ h) (sym held) ∙ t.all.0 ∙ met.all_answers some in
      let all : (state_of s).seen ≡ fed f = met.all_lines source ∙ sym (append-nil (items_sent f.sender)) ∙ ap (λ l. items_sent f.sender ++ l) (sym (f.closed closed)) in (
        over,
        ending,
        (λ up. given_up-end (state_of s).made end up made),
        (λ going. ap (option_map lane_end_of) (sym (met.source source)) ∙ sym (done-end (state_of s) done going s.orderly) ∙ made),
        (λ going. whole ∙ done-given (state_of s) done going s.orderly ∙ ap (map (state_of s).makes) all),
      )

-- ---- an end that was given out

-- an end other than that of a lane given up
not_given_up : (made : Option LaneEnd) (end : LaneEnd) → made ≡ Some end → (end ≡ GaveUp → ⊥) → is_given_up made ≡ false
not_given_up None end made other = refl
not_given_up (Some Complete) end made other = refl
not_given_up (Some (SourceFailed fault)) end made other = refl
not_given_up (Some GaveUp) end made other = absurd (other (given_up-end (Some GaveUp) end refl made))

module _ {I : Type 0} where
  -- it is made only after that of the source
  end_with-source : (lines : List I) (source : Option SourceEnd) (end : LaneEnd) → end_with lines source ≡ Some end → is_some source ≡ true
  end_with-source [] (Some source) end e = refl
  end_with-source [] None end e = absurd (none-some end e)
  end_with-source (line ∷ lines) source end e = absurd (none-some end e)

-- it was sent, so the message that had it isn't ready any more
sent-unready : (ready : Bool) (sent : Option LaneEnd) (end : LaneEnd) → (ready ≡ true → sent ≡ None) → sent ≡ Some end → ready ≡ false
sent-unready false sent end unsent e = refl
sent-unready true sent end unsent e = absurd (none-some end (sym (unsent refl) ∙ e))

ended-true : (ended : Bool) (ending : Option LaneEnd) (end : LaneEnd) → (if ended then ending else None) ≡ Some end → ended ≡ true
ended-true true ending end e = refl
ended-true false ending end e = absurd (none-some end e)

all_true : (a b c : Bool) → a ≡ true → b ≡ true → c ≡ true → a && (b && c) ≡ true
all_true a b c e f g = rw (e, f, g) refl

module _ {M I O IS OS : Type 0} {ghosts : Ghosts M I O IS OS} where
  -- it comes only from a lane that is over
  pub settled_by_end : (f : Feeder I IS) (s : Setter M I O IS OS ghosts) (t : Taker O OS) (end : LaneEnd) → HaveMet f s t → taker_end t ≡ Some end → (end ≡ GaveUp → ⊥)
      → IsSettled f s t end
  settled_by_end f s t end met ending other =
      let ended : t.ended ≡ true = ended-true t.ended (hands_of t).ending end ending in
      let came : (hands_of t).ending ≡ Some end = ended-ending t.ended (hands_of t).ending end ending in
      let sent : end_sent s.sender ≡ Some end = sym (met.ending (ap is_some came)) ∙ came in
      let made : (state_of s).made ≡ Some end = ap (λ e. first_end e s.sender.hand.ending) sent in
      let going : is_given_up (state_of s).made ≡ false = not_given_up (state_of s).made end made other in
      let source : is_some (state_of s).source ≡ true = end_with-source (state_of s).lines (state_of s).source end (sym (s.orderly.2 going) ∙ made) in
      let unready : s.ready ≡ false = sent-unready s.ready (end_sent s.sender) end s.in_hand.2 sent in
      let done : is_done (state_of s) ≡ true =
      all_true (is_some (state_of s).source) (is_some (state_of s).made) (not s.ready) source (ap is_some made) (ap not unready) in
      let closed : is_some (feeder_end f) ≡ true = ap is_some (sym (met.source source)) ∙ source in
      settled_of f s t end met (all_true (is_some (feeder_end f)) (is_done (state_of s)) t.ended closed done ended) ending

  -- the end of a lane whose ends are closed, done and ended
  pub over_ending : (f : Feeder I IS) (s : Setter M I O IS OS ghosts) (t : Taker O OS) (ending : Option LaneEnd) → is_some (feeder_end f) ≡ true
      → is_done (state_of s) ≡ true → t.ended ≡ true → ending ≡ (hands_of t).ending
      → MatchOption ending (is_over f s t ≡ false) (λ end. (is_over f s t ≡ true) × (taker_end t ≡ Some end))
  over_ending f s t None closed done ended is = absurd (true≢false (sym (t.all.2 ended) ∙ ap is_some (sym is)))
  over_ending f s t (Some end) closed done ended is =
      (all_true (is_some (feeder_end f)) (is_done (state_of s)) t.ended closed done ended, rw ended (sym is))
