-- What a collector was given of takers.
use Rattle.std.proofs.Common.{arith, ◌≡◌, ℕ, zero, suc, ◌+◌, ◌<◌, ◌≤◌, Bool, true, false, List, [], ◌∷◌, ◌++◌, length, get_or, Option, Some, None, refl, ap, sym, subst, ◌∙◌}
use Rattle.std.proofs.Math.Seq.{take-length, take-append_seam}
use Rattle.std.specs.Prelude.{set, is_none, is_ok, is_some, Result, Ok, Err}
use Rattle.std.specs.Result.{result_err}
use Rattle.lanes.specs.Rings.{IsFirstOf}
use Rattle.dealt_lanes.specs.Dealt.{gathered, gatherer_end}
use Rattle.lanes.specs.declared.ending.LaneEnd.{LaneEnd}
use Rattle.batch.specs.Events.{LaneEvent, Answered, Ended, Event, Gets, Keeps, of_lane, answers_among, lane_events}
use Rattle.batch.specs.Collecting.{AllLanes, IsTold, IsToldBy, IsToldFirst, SameOthers, TellsLane, TellsLanes}
use Rattle.batch.specs.declared.collecting.lane_taker.LaneTaker.{LaneTaker}
use Rattle.batch.proofs.EventLemmas.{answered_more, answers_back, ended_more, of_other, of_own}

-- ---- one lane

pub whole_first : {T : Type 0} (xs : List T) → IsFirstOf xs xs
whole_first xs = sym (take-length xs)

module _ {O OS : Type 0} where
  -- if all came, the first came
  pub told_first : (told : List (LaneEvent O)) (t : LaneTaker O OS) → IsTold told t → IsToldFirst told t
  told_first told t (all, end) =
      let back : answers_among told ≡ gathered t.gatherer = ap answers_among all ∙ answers_back (gathered t.gatherer) t.end in (
        all ∙ ap (λ answers. lane_events answers t.end) (sym back),
        subst (λ answers. IsFirstOf answers (gathered t.gatherer)) (sym back) (whole_first (gathered t.gatherer)),
        (λ some. (back, end)),
      )

  pub told_by : (ok : Bool) (told : List (LaneEvent O)) (t : LaneTaker O OS) → IsTold told t → IsToldBy ok told t
  told_by true told t all = all
  told_by false told t all = told_first told t all

module _ {C O OS : Type 0} (given : C → List (Event O) → Type 0) where
  -- nothing came
  pub tells_nothing : (lane : ℕ) (t t' : LaneTaker O OS) (c : C) → t'.end ≡ t.end → gathered t'.gatherer ≡ gathered t.gatherer
      → gatherer_end t'.gatherer ≡ gatherer_end t.gatherer → TellsLane given lane t c true t' c
  tells_nothing lane t t' c same took ends = λ events has told. (
    events,
    has,
    (λ other differ. refl),
    (
      told.0 ∙ ap (λ answers. lane_events answers t.end) (sym took) ∙ ap (λ end. lane_events (gathered t'.gatherer) end) (sym same),
      same ∙ told.1 ∙ sym ends,
    ),
  )

  -- an answer came
  pub tells_answer : (lane : ℕ) (t t' : LaneTaker O OS) (c c' : C) (answer : O) → t.end ≡ None → t'.end ≡ None
      → gatherer_end t'.gatherer ≡ None → gathered t'.gatherer ≡ gathered t.gatherer ++ answer ∷ [] → Gets given c (lane, Answered answer) true c'
      → TellsLane given lane t c true t' c'
  tells_answer lane t t' c c' answer unended still ends took gets = λ events has told.
      let was : of_lane lane events ≡ lane_events (gathered t.gatherer) None = told.0 ∙ ap (λ end. lane_events (gathered t.gatherer) end) unended in (
        events ++ (lane, Answered answer) ∷ [],
        gets events has,
        (λ other differ. of_other lane other events (Answered answer) (λ same. differ (sym same))),
        (
          of_own lane events (Answered answer) ∙ ap (λ l. l ++ Answered answer ∷ []) was ∙ answered_more (gathered t.gatherer) answer
              ∙ ap (λ answers. lane_events answers None) (sym took) ∙ ap (λ end. lane_events (gathered t'.gatherer) end) (sym still),
          still ∙ sym ends,
        ),
      )

  -- an answer was refused
  pub tells_refused_answer : (lane : ℕ) (t t' : LaneTaker O OS) (c c' : C) (answer : O) → t.end ≡ None → t'.end ≡ None
      → gathered t'.gatherer ≡ gathered t.gatherer ++ answer ∷ [] → Gets given c (lane, Answered answer) false c' → TellsLane given lane t c false t' c'
  tells_refused_answer lane t t' c c' answer unended still took gets = λ events has told.
      let was : of_lane lane events ≡ lane_events (gathered t.gatherer) None = told.0 ∙ ap (λ end. lane_events (gathered t.gatherer) end) unended in
      let back : answers_among (of_lane lane events) ≡ gathered t.gatherer = ap answers_among was ∙ answers_back (gathered t.gatherer) None in (
        events,
        gets events has,
        (λ other differ. refl),
        (
          was ∙ ap (λ answers. lane_events answers None) (sym back)
              ∙ ap (λ end. lane_events (answers_among (of_lane lane events)) end) (sym still),
          subst (λ answers. IsFirstOf answers (gathered t'.gatherer)) (sym back)
              (subst (λ all. IsFirstOf (gathered t.gatherer) all) (sym took) (sym (take-append_seam (gathered t.gatherer) (answer ∷ [])))),
          (λ some. absurd (let none : is_some t'.end ≡ false = ap is_some still in grind (arith, none, some))),
        ),
      )

  -- the end came
  pub tells_end : (lane : ℕ) (t t' : LaneTaker O OS) (c c' : C) (end : LaneEnd) → t.end ≡ None → t'.end ≡ Some end
      → gatherer_end t'.gatherer ≡ Some end → gathered t'.gatherer ≡ gathered t.gatherer → Gets given c (lane, Ended end) true c'
      → TellsLane given lane t c true t' c'
  tells_end lane t t' c c' end unended closed ends took gets = λ events has told.
      let was : of_lane lane events ≡ lane_events (gathered t.gatherer) None = told.0 ∙ ap (λ e. lane_events (gathered t.gatherer) e) unended in (
        events ++ (lane, Ended end) ∷ [],
        gets events has,
        (λ other differ. of_other lane other events (Ended end) (λ same. differ (sym same))),
        (
          of_own lane events (Ended end) ∙ ap (λ l. l ++ Ended end ∷ []) was ∙ ended_more (gathered t.gatherer) end
              ∙ ap (λ answers. lane_events answers (Some end)) (sym took) ∙ ap (λ e. lane_events (gathered t'.gatherer) e) (sym closed),
          closed ∙ sym ends,
        ),
      )

  -- the end was refused
  pub tells_refused_end : (lane : ℕ) (t t' : LaneTaker O OS) (c c' : C) (end : LaneEnd) → t.end ≡ None → t'.end ≡ None
      → gathered t'.gatherer ≡ gathered t.gatherer → Gets given c (lane, Ended end) false c' → TellsLane given lane t c false t' c'
  tells_refused_end lane t t' c c' end unended still took gets = λ events has told.
      let was : of_lane lane events ≡ lane_events (gathered t.gatherer) None = told.0 ∙ ap (λ e. lane_events (gathered t.gatherer) e) unended in
      let back : answers_among (of_lane lane events) ≡ gathered t'.gatherer = ap answers_among was ∙ answers_back (gathered t.gatherer) None ∙ sym took in (
        events,
        gets events has,
        (λ other differ. refl),
        (
          was ∙ ap (λ answers. lane_events answers None) (sym took ∙ sym back)
              ∙ ap (λ e. lane_events (answers_among (of_lane lane events)) e) (sym still),
          subst (λ answers. IsFirstOf answers (gathered t'.gatherer)) (sym back) (whole_first (gathered t'.gatherer)),
          (λ some. absurd (let none : is_some t'.end ≡ false = ap is_some still in grind (arith, none, some))),
        ),
      )

  -- one after the other
  pub tells_then : (lane : ℕ) (t t' t'' : LaneTaker O OS) (c c' c'' : C) (ok : Bool) → TellsLane given lane t c true t' c'
      → TellsLane given lane t' c' ok t'' c'' → TellsLane given lane t c ok t'' c''
  tells_then lane t t' t'' c c' c'' ok first second = λ events has told.
      let (events', has', others, told') = first events has told in
      let (events'', has'', others', told'') = second events' has' told' in
      (events'', has'', (λ other differ. others' other differ ∙ others other differ), told'')

  pub tells_same : (lane : ℕ) (t : LaneTaker O OS) (c : C) → TellsLane given lane t c true t c
  tells_same lane t c = tells_nothing lane t t c refl refl refl

module _ {O OS : Type 0} where
  -- ---- all lanes

  -- lanes of which nothing more came
  keep_told : (ok : Bool) (first : ℕ) (before after : List (Event O)) (ts : List (LaneTaker O OS))
      → ((other : ℕ) → first ≤ other → of_lane other after ≡ of_lane other before) → AllLanes IsTold first before ts
      → AllLanes (IsToldBy ok) first after ts
  keep_told ok first before after [] same all = tt
  keep_told ok first before after (t ∷ ts) same all = (
    subst (λ told. IsToldBy ok told t) (sym (same first (omega arith))) (told_by ok (of_lane first before) t all.0),
    keep_told ok (first + 1) before after ts (λ other from. same other (omega (arith, from))) all.1,
  )

  -- something came of one lane
  change_told : (ok : Bool) (first lane : ℕ) (before after : List (Event O)) (ts : List (LaneTaker O OS)) (i : ℕ) (t' : LaneTaker O OS) → i < length ts
      → lane ≡ first + i → SameOthers lane before after → IsToldBy ok (of_lane lane after) t' → AllLanes IsTold first before ts
      → AllLanes (IsToldBy ok) first after (set ts i t')
  change_told ok first lane before after [] i t' below at others told all = absurd (omega (arith, below))
  change_told ok first lane before after (t ∷ ts) zero t' below at others told all =
      let own : lane ≡ first = omega (arith, at) in (
        subst (λ n. IsToldBy ok (of_lane n after) t') own told,
        keep_told ok (first + 1) before after ts (λ other from. others other (λ same. absurd (omega (arith, from, own, same)))) all.1,
      )
  change_told ok first lane before after (t ∷ ts) (suc i) t' below at others told all =
      let differ : first ≡ lane → ⊥ = λ same. absurd (omega (arith, at, same)) in (
        subst (λ told. IsToldBy ok told t) (sym (others first differ)) (told_by ok (of_lane first before) t all.0),
        change_told ok (first + 1) lane before after ts i t' (omega (arith, below)) (omega (arith, at)) others told all.1,
      )

module _ {C O OS : Type 0} (given : C → List (Event O) → Type 0) where
  -- what came of one lane came of all
  pub tells_one : (ts : List (LaneTaker O OS)) (lane : ℕ) (old new : LaneTaker O OS) (c c' : C) (ok : Bool) → lane < length ts
      → old ≡ get_or ts lane old → TellsLane given lane old c ok new c' → TellsLanes given ts c ok (set ts lane new) c'
  tells_one ts lane old new c c' ok below is tells = λ events has all.
      let told : IsTold (of_lane lane events) old =
      subst (λ o. IsTold (of_lane lane events) o) (sym is) (there 0 ts lane lane events old below (omega arith) all)
      in let (events', has', others, told') = tells events has told in (
        events',
        has',
        (λ other from. others other (λ same. absurd (omega (arith, from, below, same)))),
        change_told ok 0 lane events events' ts lane new below (omega arith) others told' all,
      )
    where
      there : (first : ℕ) (ts : List (LaneTaker O OS)) (i lane : ℕ) (events : List (Event O)) (d : LaneTaker O OS) → i < length ts → lane ≡ first + i
          → AllLanes IsTold first events ts → IsTold (of_lane lane events) (get_or ts i d)
      there first [] i lane events d below at all = absurd (omega (arith, below))
      there first (t ∷ ts) zero lane events d below at all =
          let own : first ≡ lane = omega (arith, at) in subst (λ n. IsTold (of_lane n events) t) own all.0
      there first (t ∷ ts) (suc i) lane events d below at all =
          there (first + 1) ts i lane events d (omega (arith, below)) (omega (arith, at)) all.1

  pub tells_all_same : (ts : List (LaneTaker O OS)) (c : C) → TellsLanes given ts c true ts c
  tells_all_same ts c = λ events has all. (events, has, (λ other from. refl), all)

  -- one after the other
  pub tells_all_then : (ts ts' ts'' : List (LaneTaker O OS)) (c c' c'' : C) (ok : Bool) → length ts' ≡ length ts → TellsLanes given ts c true ts' c'
      → TellsLanes given ts' c' ok ts'' c'' → TellsLanes given ts c ok ts'' c''
  tells_all_then ts ts' ts'' c c' c'' ok long first second = λ events has all.
      let (events', has', others, all') = first events has all in
      let (events'', has'', others', all'') = second events' has' all' in
      (events'', has'', (λ other from. others' other (omega (arith, long, from)) ∙ others other from), all'')

-- ---- ends

-- a result without an error is ok
pub ok_none : {T E : Type 0} (result : Result T E) (error : Option E) → error ≡ result_err result → is_ok result ≡ is_none error
ok_none (Ok value) error is = ap is_none (sym is)
ok_none (Err fault) error is = ap is_none (sym is)

pub none_yet : (end : Option LaneEnd) → is_some end ≡ false → end ≡ None
none_yet None e = refl
none_yet (Some end) e = absurd (grind (arith, e))

module _ {C O OS : Type 0} (given : C → List (Event O) → Type 0) where
  -- the collector was told that the thread is about to wait
  pub tells_all_kept : (ts ts' : List (LaneTaker O OS)) (c c' c'' : C) (ok : Bool) → TellsLanes given ts c true ts' c' → Keeps given c' c''
      → TellsLanes given ts c ok ts' c''
  tells_all_kept ts ts' c c' c'' ok first keeps = λ events has all.
      let (events', has', others, all') = first events has all in (events', keeps events' has', others, weaken ok 0 events' ts' all')
    where
      weaken : (ok : Bool) (first : ℕ) (events : List (Event O)) (ts : List (LaneTaker O OS)) → AllLanes (IsToldBy true) first events ts
          → AllLanes (IsToldBy ok) first events ts
      weaken ok first events [] all = tt
      weaken ok first events (t ∷ ts) all = (told_by ok (of_lane first events) t all.0, weaken ok (first + 1) events ts all.1)
