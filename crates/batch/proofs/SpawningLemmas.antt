-- A level of a run: its lane begins, the levels below come back, and its lane ends.
use Rattle.std.proofs.Common.{arith, ◌≡◌, ◌⊎◌, inl, inr, ℕ, ◌+◌, ◌*◌, ◌<◌, ◌≤◌, ◌%◌, zero, suc, Bool, true, false, List, [], ◌∷◌, ◌++◌, length, get_or, Option, None, refl, ap, sym, subst, ◌∙◌}
use Rattle.std.proofs.lemmas.List.{length-append, length-set, map-append}
use Rattle.std.specs.Prelude.{map, set, All, IsSome, IsTrue, is_none, Result, Ok, Err, IfOk, IfErr, IsOk, IsOkAnd, OnOk}
use Rattle.std.specs.Result.{is_err}
use Rattle.std.proofs.lemmas.Bool.{false≢true}
use Rattle.std.specs.List.{AllZip}
use Rattle.lanes.specs.Ends.{SameFeeder, SameSetter}
use Rattle.dealt_lanes.specs.Dealt.{SameDealer, dealer_lanes, gathered}
use Rattle.lanes.specs.declared.making.Making.{Ghosts}
use Rattle.lanes.specs.declared.setter.Setter.{Setter}
use Rattle.lanes.specs.declared.fault.SourceFault.{SourceFault}
use Rattle.batch.specs.Events.{Event, answers_in, lane_events, of_lane}
use Rattle.batch.specs.Workers.{HasOneMore, HaveMore}
use Rattle.batch.specs.Collecting.{AllLanes, IsFreshTaker, IsTold, IsToldBy, IsToldFirst, SameLane}
use Rattle.batch.specs.Given.{HandsBack}
use Rattle.batch.specs.Closed.{AreBack, AreClosedOf, HasNoOthers, IsClosedOf}
use Rattle.batch.specs.Lanes.{Begins, CanEnd, Ends, Held}
use Rattle.batch.specs.Gathering.{Collects, Gathers}
use Rattle.batch.specs.declared.collector.Refusal.{Refusal}
use Rattle.batch.specs.declared.collecting.collector_thread.Collected.{Collected}
use Rattle.batch.specs.declared.threads.source_thread.Feeding.{Feeding}
use Rattle.batch.specs.declared.collecting.lane_taker.LaneTaker.{LaneTaker}
use Rattle.batch.specs.declared.run_end.ClosedLane.{ClosedLane}
use Rattle.batch.specs.declared.run_fault.RunFault.{RunFault}
use Rattle.batch.specs.declared.run_fault.RunFault.TheVariants.{TooManySources, OutOfMemory, Thread}
use Rattle.std.proofs.lemmas.List.Elements.{All-cons, All-head, All-push, All-tail, length_all_zip}
use Rattle.batch.proofs.Zips.{zip_last, zip_place, zip_there}
use Rattle.batch.proofs.SameEnds.{still_lanes}
use Rattle.batch.proofs.HaveMore.{back_at_index, one_length}
use Rattle.batch.proofs.LaneLemmas.{closed_of}
use Rattle.batch.proofs.TakerLemmas.{told_first}

-- ---- what came back from the levels below

module _ {A B E : Type 0} where
  -- what came back, and what was done to it
  pub after_below : (below : Result B E) (result : Result A E) (P : B → Type 0) (Q : B → A → Type 0) (R : A → Type 0) → IfOk below P
      → IfOk result (λ a. IsOkAnd below (λ b. Q b a)) → ((b : B) (a : A) → P b → Q b a → R a) → IfOk result R
  after_below below (Err e) P Q R has done step = tt
  after_below (Ok b) (Ok a) P Q R has done step = step b a has done
  after_below (Err e) (Ok a) P Q R has done step = absurd done

  -- two things that were done to it
  pub both_done : (below : Result B E) (result : Result A E) (P Q : B → A → Type 0) → IfOk result (λ a. IsOkAnd below (λ b. P b a))
      → IfOk result (λ a. IsOkAnd below (λ b. Q b a)) → IfOk result (λ a. IsOkAnd below (λ b. P b a × Q b a))
  both_done below (Err e) P Q one two = tt
  both_done (Ok b) (Ok a) P Q one two = (one, two)
  both_done (Err e) (Ok a) P Q one two = absurd one

  -- what came back, of which something is added
  pub from_started : (below : Result B E) (result : Result A E) (f : A → B) (P : B → Type 0) (R : A → Type 0) → IfOk below P
      → IfOk result (λ a. below ≡ Ok (f a)) → ((a : A) → P (f a) → R a) → IfOk result R
  from_started below (Err e) f P R has is step = tt
  from_started below (Ok a) f P R has is step = step a (subst (λ r. IfOk r P) is has)

  -- the error is that of the levels below
  pub err_below : (below : Result B E) (result : Result A E) (P : E → Type 0) → IfErr below P → IfErr result (λ e. below ≡ Err e)
      → IfErr result P
  err_below below (Ok a) P has is = tt
  err_below below (Err e) P has is = subst (λ r. IfErr r P) is has

  -- there is none, if they had none
  pub ok_below : (below : Result B E) (result : Result A E) → IsOk below → IfErr result (λ e. below ≡ Err e) → IsOk result
  ok_below below (Ok a) has is = refl
  ok_below below (Err e) has is = subst (λ r. IsOk r) is has

-- two things that hold of what came back
pub both_ok : {T E : Type 0} (r : Result T E) (P Q : T → Type 0) → IfOk r P → IfOk r Q → IfOk r (λ x. P x × Q x)
both_ok (Ok x) P Q one two = (one, two)
both_ok (Err e) P Q one two = tt

-- what holds of a call that gave no error
pub reserved : {T E : Type 0} (r : Result T E) (P : Type 0) (failed : Bool) → failed ≡ is_err r → failed ≡ false → OnOk r P → P
reserved (Ok x) P failed is none has = has
reserved (Err e) P failed is none has = absurd (false≢true (sym none ∙ is))

-- a fault that isn't the number of sources
pub short : (fault : RunFault) → (fault ≡ TooManySources → ⊥) → (fault ≡ OutOfMemory) ⊎ (fault ≡ Thread)
short TooManySources few = absurd (few refl)
short OutOfMemory few = inl refl
short Thread few = inr refl

-- ---- numbers of a level

-- one was taken, so there was one
pub no_more : {P : Type 0} (a n : ℕ) → a + 1 ≡ n → n ≡ 0 → P
no_more a n e none = absurd (omega arith)

-- there is room for the lane of this level
pub room_left : (n more room long room' : ℕ) → n + 1 ≡ more → more ≤ room → long ≡ n → room ≤ room' → long < room'
room_left n more room long room' a b d e = omega arith

-- as many lanes as sources
pub one_more : (n more long long' : ℕ) → n + 1 ≡ more → long ≡ n → long' ≡ long + 1 → long' ≡ more
one_more n more long long' a b d = omega arith

-- no less than at first
pub no_less : (a b d : ℕ) → a ≤ b → b ≤ d → a ≤ d
no_less a b d e f = omega arith

-- places for a part
pub part_fits : (a b d : ℕ) → a + b ≤ d → b ≤ d
part_fits a b d e = omega arith

-- ---- one worker among workers

module _ {M I O IS OS : Type 0} {ghosts : Ghosts M I O IS OS} where
  -- the setter that is taken back is that of the same lane, and the workers are as before
  same_at_worker : (i : ℕ) (s t : Setter M I O IS OS ghosts) (workers workers1 workers2 workers3 : List (List (Setter M I O IS OS ghosts))) → HasOneMore i s workers workers1
      → AllZip (AllZip SameSetter) workers1 workers2 → HasOneMore i t workers3 workers2 → SameSetter s t × AllZip (AllZip SameSetter) workers workers3
  same_at_worker i s t workers workers1 workers2 workers3 with_one same back =
      let x = get_or workers i [] in let y = get_or workers3 i [] in
      let both : AllZip (AllZip SameSetter) (set workers i (x ++ s ∷ [])) (set workers3 i (y ++ t ∷ [])) =
      subst (λ h. AllZip (AllZip SameSetter) h (set workers3 i (y ++ t ∷ []))) with_one.1
      (subst (λ h. AllZip (AllZip SameSetter) workers1 h) back.1 same)
      in let place = zip_place (AllZip SameSetter) [] workers workers3 i (x ++ s ∷ []) (y ++ t ∷ []) with_one.0 back.0 both in
      let last = zip_last SameSetter x y s t place.0 in (last.1, place.1 last.0)

-- the last element, and those before it
last_of : {A : Type 0} (R : A → A → Type 0) (xs ys : List A) (x : A) → AllZip R (xs ++ x ∷ []) ys → (init : List A) × (y : A) × (ys ≡ init ++ y ∷ [])
last_of R [] [] x zip = elim zip [ ]
last_of R [] (y ∷ []) x zip = ([], y, refl)
last_of R [] (y ∷ (z ∷ ys)) x zip = elim zip.1 [ ]
last_of R (w ∷ xs) [] x zip = elim zip [ ]
last_of R (w ∷ xs) (y ∷ ys) x zip = let (init, z, e) = last_of R xs ys x zip.1 in (y ∷ init, z, ap (λ l. y ∷ l) e)

module _ {M I O IS OS : Type 0} {ghosts : Ghosts M I O IS OS} where
  -- workers that got more setters, and came back: the setters that are taken back are those of the same lanes, and
  -- the workers are as before
  same_many : (first : ℕ) (ss ts : List (Setter M I O IS OS ghosts)) (workers workers1 workers2 workers3 : List (List (Setter M I O IS OS ghosts)))
      → length ts ≡ length ss → HaveMore first ss workers workers1 → AllZip (AllZip SameSetter) workers1 workers2 → HaveMore first ts workers3 workers2
      → AllZip SameSetter ss ts × AllZip (AllZip SameSetter) workers workers3
  same_many first [] [] workers workers1 workers2 workers3 long have same back =
      (tt, subst (λ w. AllZip (AllZip SameSetter) w workers3) have (subst (AllZip (AllZip SameSetter) workers1) back same))
  same_many first [] (t ∷ ts) workers workers1 workers2 workers3 long have same back = absurd (omega (arith, long))
  same_many first (s ∷ ss) [] workers workers1 workers2 workers3 long have same back = absurd (omega (arith, long))
  same_many first (s ∷ ss) (t ∷ ts) workers workers1 workers2 workers3 long (between, have, one) same (under, back, two) =
      let up : length workers1 ≡ length between = one_length (first % length between) s between workers1 one in
      let down : length workers2 ≡ length under = one_length (first % length under) t under workers2 two in
      let wide : length workers1 ≡ length workers2 = length_all_zip (AllZip SameSetter) workers1 workers2 same in
      let two' : HasOneMore (first % length between) t under workers2 =
      subst (λ k. HasOneMore (first % k) t under workers2) (sym down ∙ sym wide ∙ up) two in
      let here = same_at_worker (first % length between) s t between workers1 workers2 under one same two' in
      let rest = same_many (first + 1) ss ts workers between under workers3 (omega (arith, long)) have here.1 back in
      ((here.0, rest.0), rest.1)

  -- and there are such setters
  exist_many : (first : ℕ) (ss : List (Setter M I O IS OS ghosts)) (workers workers1 workers2 : List (List (Setter M I O IS OS ghosts)))
      → HaveMore first ss workers workers1 → AllZip (AllZip SameSetter) workers1 workers2
      → (ts : List (Setter M I O IS OS ghosts)) × (workers3 : List (List (Setter M I O IS OS ghosts)))
      × (length ts ≡ length ss) × HaveMore first ts workers3 workers2 × AllZip SameSetter ss ts
  exist_many first [] workers workers1 workers2 have same = ([], workers2, refl, refl, tt)
  exist_many first (s ∷ ss) workers workers1 workers2 (between, have, one) same =
      let i = first % length between in
      let there = zip_there (AllZip SameSetter) [] between workers2 i (get_or between i [] ++ s ∷ []) one.0
      (subst (λ x. AllZip (AllZip SameSetter) x workers2) one.1 same) in
      let (init, t, is) = last_of SameSetter (get_or between i []) (get_or workers2 i []) s there in
      let up : length workers1 ≡ length between = one_length i s between workers1 one in
      let wide : length workers1 ≡ length workers2 = length_all_zip (AllZip SameSetter) workers1 workers2 same in
      let below : i < length workers2 = omega (arith, one.0, up, wide) in
      let under = set workers2 i init in
      let shorter : length under ≡ length workers2 = length-set workers2 i init in
      let two : HasOneMore i t under workers2 = (omega (arith, below, shorter), back_at_index workers2 i init t below is) in
      let here = same_at_worker i s t between workers1 workers2 under one same two in
      let (ts, workers3, long, back, worked) = exist_many (first + 1) ss workers between under have here.1 in
      (t ∷ ts, workers3, ap suc long, (under, back, subst (λ k. HasOneMore (first % k) t under workers2) (sym up ∙ wide ∙ sym shorter) two), (here.0, worked))

module _ {O OS : Type 0} where
  -- the same of the takers
  same_lanes : (a b : LaneTaker O OS) (lanes lanes1 lanes2 lanes3 : List (LaneTaker O OS)) → lanes1 ≡ a ∷ lanes → AllZip SameLane lanes1 lanes2
      → lanes2 ≡ b ∷ lanes3 → AllZip SameLane lanes lanes3 × SameLane a b
  same_lanes a b lanes lanes1 lanes2 lanes3 more same back =
      let both : AllZip SameLane (a ∷ lanes) (b ∷ lanes3) =
      subst (λ l. AllZip SameLane l (b ∷ lanes3)) more (subst (λ l. AllZip SameLane lanes1 l) back same)
      in (both.1, both.0)

  first_lane : (a : LaneTaker O OS) (lanes lanes1 lanes2 : List (LaneTaker O OS)) → lanes1 ≡ a ∷ lanes → AllZip SameLane lanes1 lanes2
      → (b : LaneTaker O OS) × (lanes3 : List (LaneTaker O OS)) × (lanes2 ≡ b ∷ lanes3) × SameLane a b
  first_lane a lanes lanes1 [] more same = elim (subst (λ l. AllZip SameLane l []) more same) [ ]
  first_lane a lanes lanes1 (b ∷ lanes3) more same = (b, lanes3, refl, (subst (λ l. AllZip SameLane l (b ∷ lanes3)) more same).0)

-- ---- lanes, the last of which ends

module _ {S M I O : Type 0} where
  -- one more lane that has ended
  closed_more : (gives : S → Result (Option I) SourceFault → S → Type 0) (makes : M → I → O) (events : List (Event O)) (first : ℕ)
      (sources : List (S × M)) (source : S × M) (closed : List (ClosedLane S)) (lane : ClosedLane S)
      → AreClosedOf gives makes events first sources closed
      → of_lane (first + length sources) events ≡ lane_events (answers_in (first + length sources) events) lane.end
      → IsClosedOf gives (makes source.1) source.0 (answers_in (first + length sources) events) lane
      → AreClosedOf gives makes events first (sources ++ source ∷ []) (closed ++ lane ∷ [])
  closed_more gives makes events first [] source [] lane are told one =
      let at : first + 0 ≡ first = omega arith in (
        subst (λ n. of_lane n events ≡ lane_events (answers_in n events) lane.end) at told,
        subst (λ n. IsClosedOf gives (makes source.1) source.0 (answers_in n events) lane) at one,
        tt,
      )
  closed_more gives makes events first [] source (c ∷ closed) lane are told one = elim are [ ]
  closed_more gives makes events first (s ∷ sources) source [] lane are told one = elim are [ ]
  closed_more gives makes events first (s ∷ sources) source (c ∷ closed) lane are told one =
      let at : first + length (s ∷ sources) ≡ first + 1 + length sources = omega arith in (
        are.0,
        are.1,
        closed_more gives makes events (first + 1) sources source closed lane are.2
            (subst (λ n. of_lane n events ≡ lane_events (answers_in n events) lane.end) at told)
            (subst (λ n. IsClosedOf gives (makes source.1) source.0 (answers_in n events) lane) at one),
      )

module _ {S M : Type 0} where
  -- one more source that came back
  back_more : {Q : Type 0} (origin : S → Q) (sources : List (S × M)) (source : S × M)
      (closed : List (ClosedLane S)) (lane : ClosedLane S) → AreBack origin sources (map (λ c. c.source) closed)
      → origin lane.source ≡ origin source.0
      → AreBack origin (sources ++ source ∷ []) (map (λ c. c.source) (closed ++ lane ∷ []))
  back_more origin sources source closed lane are own =
      ap (map origin) (map-append (λ c. c.source) closed (lane ∷ []))
      ∙ map-append origin (map (λ c. c.source) closed) (lane.source ∷ [])
      ∙ ap (λ xs. xs ++ origin lane.source ∷ []) are
      ∙ ap (λ o. map (λ s. origin s.0) sources ++ o ∷ []) own
      ∙ sym (map-append (λ s. origin s.0) sources (source ∷ []))

module _ {S M I O IS OS : Type 0} {ghosts : Ghosts M I O IS OS} where
  -- the dealer that comes back has as many lanes as were opened
  pub as_many_lanes : (source : S × M) (count n : ℕ) (start back : Feeding S I IS) (before after : Held (Setter M I O IS OS ghosts) O OS)
      → Begins count n source start before after → SameDealer start.dealer back.dealer → dealer_lanes back.dealer ≡ count
  as_many_lanes source count n start back before after (is, (ss, l, long, fresh, with_more, more)) same =
      sym (length_all_zip SameFeeder start.dealer.feeders.items back.dealer.feeders.items same)
      ∙ sym fresh.0.0 ∙ long

  -- once the levels below have come back, the lanes can end
  pub can_end : (source : S × M) (count n : ℕ) (start back : Feeding S I IS) (workers workers1 workers2 : List (List (Setter M I O IS OS ghosts)))
      (lanes lanes1 lanes2 : List (LaneTaker O OS))
      → Begins count n source start (record { workers = workers; lanes = lanes }) (record { workers = workers1; lanes = lanes1 })
      → AllZip (AllZip SameSetter) workers1 workers2 → AllZip SameLane lanes1 lanes2 → SameDealer start.dealer back.dealer
      → CanEnd (dealer_lanes back.dealer) n back.dealer (record { workers = workers2; lanes = lanes2 })
  can_end source count n start back workers workers1 workers2 lanes lanes1 lanes2 begun same_workers same_all same =
      let (is, (ss, l, long, fresh, with_more, more)) = begun in
      let before : Held (Setter M I O IS OS ghosts) O OS = record { workers = workers; lanes = lanes } in
      let after : Held (Setter M I O IS OS ghosts) O OS = record { workers = workers1; lanes = lanes1 } in
      let held : Held (Setter M I O IS OS ghosts) O OS = record { workers = workers2; lanes = lanes2 } in
      let many = as_many_lanes source count n start back before after begun same in
      let (ts, workers3, as_long, have, worked) = exist_many (n * count) ss workers workers1 workers2 with_more same_workers in
      let (d, lanes3, popped, of_taker) = first_lane l lanes lanes1 lanes2 more same_all in
      subst (λ k. CanEnd k n back.dealer held) (sym many) (
        ts,
        workers3,
        d,
        lanes3,
        as_long ∙ long,
        have,
        popped,
        still_lanes start.dealer.feeders.items back.dealer.feeders.items ss ts l.gatherer.takers.items d.gatherer.takers.items fresh.0 same worked of_taker,
      )

  -- once they have ended, the workers have their setters as before
  pub workers_back : (source : S × M) (count n : ℕ) (start back : Feeding S I IS) (closed closed' : List (ClosedLane S))
      (workers workers1 workers2 workers3 : List (List (Setter M I O IS OS ghosts))) (lanes lanes1 lanes2 lanes3 : List (LaneTaker O OS))
      → Begins count n source start (record { workers = workers; lanes = lanes }) (record { workers = workers1; lanes = lanes1 })
      → AllZip (AllZip SameSetter) workers1 workers2 → SameDealer start.dealer back.dealer
      → Ends (dealer_lanes back.dealer) n back closed closed' (record { workers = workers2; lanes = lanes2 }) (record { workers = workers3; lanes = lanes3 })
      → AllZip (AllZip SameSetter) workers workers3
  workers_back source count n start back closed closed' workers workers1 workers2 workers3 lanes lanes1 lanes2 lanes3
      (is, (ss, l, long, fresh, with_more, more)) same_workers same (ts, d, one, as_long, taken, popped, ended, finished) =
      let before : Held (Setter M I O IS OS ghosts) O OS = record { workers = workers; lanes = lanes } in
      let after : Held (Setter M I O IS OS ghosts) O OS = record { workers = workers1; lanes = lanes1 } in
      let many = as_many_lanes source count n start back before after (is, (ss, l, long, fresh, with_more, more)) same in
      (same_many (n * count) ss ts workers workers1 workers2 workers3 (as_long ∙ many ∙ sym long) with_more same_workers
      (subst (λ k. HaveMore (n * k) ts workers3 workers2) many taken)).1

  -- and the lane is among those that have ended
  pub has_ended : {Q C : Type 0} (gives : S → Result (Option I) SourceFault → S → Type 0) (origin : S → Q) (places : C → ℕ) (given : C → List (Event O) → Type 0)
      (refused : C → Option Refusal → Type 0) (sources rest : List (S × M)) (source : S × M) (count n : ℕ)
      (start back : Feeding S I IS) (closed closed' : List (ClosedLane S)) (workers workers1 workers2 workers3 : List (List (Setter M I O IS OS ghosts)))
      (lanes lanes1 : List (LaneTaker O OS)) (before : C) (collected collected' : Collected C O OS) → sources ≡ rest ++ source ∷ []
      → Begins count n source start (record { workers = workers; lanes = lanes }) (record { workers = workers1; lanes = lanes1 })
      → AllZip (AllZip SameSetter) workers1 workers2 → HandsBack gives origin start back
      → Gathers gives ghosts.makes origin places given refused rest lanes1 before closed collected
      → Ends (dealer_lanes back.dealer) n back closed closed' (record { workers = workers2; lanes = collected.lanes.items })
      (record { workers = workers3; lanes = collected'.lanes.items })
      → collected'.collector ≡ collected.collector → collected'.refusal ≡ collected.refusal
      → Gathers gives ghosts.makes origin places given refused sources lanes before closed' collected'
  has_ended {Q} {C} gives origin places given refused sources rest source count n start back closed closed' workers workers1 workers2 workers3 lanes lanes1 before
      collected collected' was (is, (ss, l, count_is, fresh, with_more, more)) same_workers handed below (ts, d, one, as_long, taken, popped, now, finished) own_collector own_refusal =
      let held : Held (Setter M I O IS OS ghosts) O OS = record { workers = workers; lanes = lanes } in
      let held1 : Held (Setter M I O IS OS ghosts) O OS = record { workers = workers1; lanes = lanes1 } in
      let many = as_many_lanes source count n start back held held1 (is, (ss, l, count_is, fresh, with_more, more)) handed.same in
      let own = same_many (n * count) ss ts workers workers1 workers2 workers3 (as_long ∙ many ∙ sym count_is) with_more same_workers
      (subst (λ k. HaveMore (n * k) ts workers3 workers2) many taken) in
      let of_taker = same_lanes l d lanes lanes1 collected.lanes.items collected'.lanes.items more below.same popped in
      let open_to : (r : Option Refusal) → r ≡ collected'.refusal → IsTrue (is_none r) → IsTrue (is_none collected.refusal) =
      λ r e none. subst (λ x. IsTrue (is_none x)) (e ∙ own_refusal) none
      in let long : length sources ≡ length rest + 1 = ap length was ∙ length-append rest (source ∷ []) in
      let long_lanes : length lanes1 ≡ length lanes + 1 = omega (arith, ap length more) in record {
        places_kept = ap places own_collector ∙ below.places_kept;
        same = of_taker.0;
        told = λ has fresh_lanes.
            let (events, has', all, are, others) =
            below.told has (subst (All IsFreshTaker) (sym more) (All-cons IsFreshTaker l lanes fresh.4 fresh_lanes))
            in let of_last : AllLanes IsToldFirst (length rest) events (d ∷ collected'.lanes.items) =
            subst (λ ts. AllLanes IsToldFirst (length rest) events ts) popped all
            in let facts = closed_of gives origin source start back ss ts l d one (of_lane (length rest) events) is fresh own.0 handed finished of_last.0
            in let at : 0 + length rest ≡ length rest = omega arith in (
              events,
              subst (λ c. given c events) (sym own_collector) has',
              subst (λ k. AllLanes IsToldFirst k events collected'.lanes.items) (sym long) of_last.1,
              subst (λ xs. AreClosedOf gives ghosts.makes events 0 xs closed') (sym was)
                  (subst (λ ys. AreClosedOf gives ghosts.makes events 0 (rest ++ source ∷ []) ys) (sym now)
                  (closed_more gives ghosts.makes events 0 rest source closed one are
                  (subst (λ k. of_lane k events ≡ lane_events (answers_in k events) one.end) (sym at) facts.0)
                  (subst (λ k. IsClosedOf gives (ghosts.makes source.1) source.0 (answers_in k events) one) (sym at) facts.1))),
              subst (λ k. HasNoOthers events k) (omega (arith, long, long_lanes)) others,
            );
        ended = λ none.
            All-tail (λ lane. IsSome lane.end) d collected'.lanes.items
            (subst (All (λ lane. IsSome lane.end)) popped (below.ended (open_to collected'.refusal refl none)));
        whole = λ none.
            let last = All-head (λ lane. IsSome lane.end) d collected'.lanes.items
            (subst (All (λ lane. IsSome lane.end)) popped (below.ended (open_to collected'.refusal refl none))) in
            subst (All (λ lane. IsSome lane.end)) (sym now)
            (All-push (λ lane. IsSome lane.end) closed one (below.whole (open_to collected'.refusal refl none))
            (subst (λ end. IsSome end) (sym finished.1) last));
        refuses = subst (λ c. refused c collected'.refusal) (sym own_collector)
            (subst (λ r. refused collected.collector r) (sym own_refusal) below.refuses);
        own_sources = subst (λ xs. AreBack origin xs (map (λ c. c.source) closed')) (sym was)
            (subst (λ ys. AreBack origin (rest ++ source ∷ []) (map (λ c. c.source) ys)) (sym now)
            (back_more origin rest source closed one below.own_sources
            (ap origin finished.0 ∙ handed.own_source ∙ ap origin is)));
      }

module _ {O OS : Type 0} where
  -- nothing came of lanes of which nothing was taken
  none_told : (first : ℕ) (ts : List (LaneTaker O OS)) → All IsFreshTaker ts → AllLanes IsTold first [] ts
  none_told first [] fresh = tt
  none_told first (t ∷ ts) fresh =
      let own = fresh 0 t (omega arith) in (
        (
          ap (λ answers. lane_events answers None) (sym own.0) ∙ ap (λ end. lane_events (gathered t.gatherer) end) (sym own.2),
          own.2 ∙ sym own.1,
        ),
        none_told (first + 1) ts (λ k d below. fresh (suc k) d (omega (arith, below))),
      )

  -- the first came in any case
  all_first : (ok : Bool) (first : ℕ) (events : List (Event O)) (ts : List (LaneTaker O OS)) → AllLanes (IsToldBy ok) first events ts
      → AllLanes IsToldFirst first events ts
  all_first ok first events [] all = tt
  all_first true first events (t ∷ ts) all = (told_first (of_lane first events) t all.0, all_first true (first + 1) events ts all.1)
  all_first false first events (t ∷ ts) all = (all.0, all_first false (first + 1) events ts all.1)

module _ {S M I O Q C OS : Type 0} where
  -- without a source, what was collected is all
  pub gathers_none : (gives : S → Result (Option I) SourceFault → S → Type 0) (makes : M → I → O) (origin : S → Q) (places : C → ℕ) (given : C → List (Event O) → Type 0)
      (refused : C → Option Refusal → Type 0) (sources : List (S × M)) (lanes : List (LaneTaker O OS)) (before : C) (closed : List (ClosedLane S))
      (back : Collected C O OS) → sources ≡ [] → closed ≡ [] → Collects places given refused lanes before back
      → Gathers gives makes origin places given refused sources lanes before closed back
  gathers_none gives makes origin places given refused sources lanes before closed back no_source none all =
      subst (λ xs. Gathers gives makes origin places given refused xs lanes before closed back) (sym no_source)
      (subst (λ ys. Gathers gives makes origin places given refused [] lanes before ys back) (sym none) (record {
        places_kept = all.places_kept;
        same = all.same;
        told = λ has fresh.
            let (events, has', others, came) = all.told [] has (none_told 0 lanes fresh) in (
              events,
              has',
              all_first (is_none back.refusal) 0 events back.lanes.items came,
              tt,
              (λ lane from. others lane (omega (arith, from))),
            );
        ended = all.whole;
        whole = λ none' k d below. absurd (omega (arith, below));
        refuses = all.refuses;
        own_sources = refl;
      }))
