-- The reports of a run whose answers were kept, and what a finished one says.
use Rattle.std.proofs.Common.{arith, ◌≡◌, ℕ, zero, suc, ◌+◌, ◌<◌, List, [], ◌∷◌, ◌++◌, length, get_or, replicate, Option, Some, None, refl, ap, sym, subst, ◌∙◌}
use Rattle.std.specs.Prelude.{map, All, IfOk, IfSome, Result, Ok}
use Rattle.std.proofs.lemmas.List.Elements.{All-tail}
use Rattle.std.specs.Arc.{arc_value}
use Rattle.std.specs.declared.sync.Arc.{Arc}
use Rattle.std.specs.declared.alloc.Global.{Global}
use Rattle.set_line.specs.Terms.{TermsValue}
use Rattle.set_line.specs.Answer.{AnswerValue, answer_of, answers_of}
use Rattle.lanes.specs.declared.fault.SourceFault.{SourceFault}
use Rattle.lanes.specs.declared.ending.LaneEnd.{LaneEnd}
use Rattle.lanes.specs.declared.ending.LaneEnd.TheVariants.{Complete}
use Rattle.batch.specs.Events.{Event, answers_in}
use Rattle.batch.specs.Closed.{AreClosedOf, HasNoOthers}
use Rattle.set_run.specs.Reports.{AreAllAnswers, AreAnswered, AreReported, AreReportsOf, IsTrueToSource}
use Rattle.batch.specs.Sources.{gives_known}
use Rattle.batch.specs.declared.run_end.ClosedLane.{ClosedLane}
use Rattle.set_run.specs.declared.report.LaneReport.{LaneReport}
use Rattle.set_run.proofs.ClosedLines.{closed_line}

-- what the settings make of a line
abbrev made : Arc TermsValue Global → List ℕ → AnswerValue
made terms = answer_of (arc_value terms)

all_lines : (terms : TermsValue) (answers : List AnswerValue) (before after : Option (List (List ℕ))) → AreAllAnswers terms answers before after
    → IfSome before (λ lines. answers ≡ answers_of terms lines)
all_lines terms answers (Some lines) after all = all.0
all_lines terms answers None after all = tt

module _ {S : Type 0} where
  -- if every lane is complete, each source has all its answers
  pub answered : (to_come : S → Option (List (List ℕ))) (failed : S → Option SourceFault) (sources : List (S × Arc TermsValue Global))
      (reports : List (LaneReport S)) → AreReported to_come failed sources reports → All (λ lane. lane.end ≡ Complete) reports
      → AreAnswered to_come sources reports
  answered to_come failed [] [] are all = tt
  answered to_come failed [] (r ∷ reports) are all = elim are [ ]
  answered to_come failed (s ∷ sources) [] are all = elim are [ ]
  answered to_come failed (s ∷ sources) (r ∷ reports) are all = (
    all_lines (arc_value s.1) r.answers (to_come s.0) (to_come r.source) (are.0.1 (ap Some (all 0 r (omega arith)))).1,
    answered to_come failed sources reports are.1 (All-tail (λ lane. lane.end ≡ Complete) r reports all),
  )

module _ {S : Type 0} where
  -- one more report
  pub reports_more : (lanes : List (ClosedLane S)) (lists : List (List AnswerValue)) (reports : List (LaneReport S)) (lane : ClosedLane S)
      (answers : List AnswerValue) (report : LaneReport S) → AreReportsOf lanes lists reports → report.source ≡ lane.source
      → report.answers ≡ answers → lane.end ≡ Some report.end → AreReportsOf (lanes ++ lane ∷ []) (lists ++ answers ∷ []) (reports ++ report ∷ [])
  reports_more [] [] [] lane answers report are source own end = (source, own, end, tt)
  reports_more [] [] (r ∷ reports) lane answers report are source own end = elim are [ ]
  reports_more [] (l ∷ lists) reports lane answers report are source own end = elim are [ ]
  reports_more (c ∷ lanes) [] reports lane answers report are source own end = elim are [ ]
  reports_more (c ∷ lanes) (l ∷ lists) [] lane answers report are source own end = elim are [ ]
  reports_more (c ∷ lanes) (l ∷ lists) (r ∷ reports) lane answers report are source own end =
      (are.0, are.1, are.2, reports_more lanes lists reports lane answers report are.3 source own end)

  -- the sources of the lanes are those of their reports
  pub same_sources : (lanes : List (ClosedLane S)) (lists : List (List AnswerValue)) (reports : List (LaneReport S))
      → AreReportsOf lanes lists reports → map (λ report. report.source) reports ≡ map (λ lane. lane.source) lanes
  same_sources [] [] [] are = refl
  same_sources [] [] (r ∷ reports) are = elim are [ ]
  same_sources [] (l ∷ lists) reports are = elim are [ ]
  same_sources (c ∷ lanes) [] reports are = elim are [ ]
  same_sources (c ∷ lanes) (l ∷ lists) [] are = elim are [ ]
  same_sources (c ∷ lanes) (l ∷ lists) (r ∷ reports) are =
      ap (λ s. s ∷ map (λ report. report.source) reports) are.0 ∙ ap (λ xs. c.source ∷ xs) (same_sources lanes lists reports are.3)

  -- what holds of the lanes holds of their reports
  pub reported_all : (to_come : S → Option (List (List ℕ))) (failed : S → Option SourceFault) (events : List (Event AnswerValue)) (first : ℕ)
      (sources : List (S × Arc TermsValue Global)) (lanes : List (ClosedLane S)) (lists : List (List AnswerValue)) (reports : List (LaneReport S))
      → AreClosedOf (gives_known to_come failed) made events first sources lanes → AreReportsOf lanes lists reports
      → ((i : ℕ) → i < length lists → get_or lists i [] ≡ answers_in (first + i) events) → AreReported to_come failed sources reports
  reported_all to_come failed events first [] [] [] [] are of_lanes have = tt
  reported_all to_come failed events first [] [] [] (r ∷ reports) are of_lanes have = elim of_lanes [ ]
  reported_all to_come failed events first [] [] (l ∷ lists) reports are of_lanes have = elim of_lanes [ ]
  reported_all to_come failed events first [] (c ∷ lanes) lists reports are of_lanes have = elim are [ ]
  reported_all to_come failed events first (s ∷ sources) [] lists reports are of_lanes have = elim are [ ]
  reported_all to_come failed events first (s ∷ sources) (c ∷ lanes) [] reports are of_lanes have = elim of_lanes [ ]
  reported_all to_come failed events first (s ∷ sources) (c ∷ lanes) (l ∷ lists) [] are of_lanes have = elim of_lanes [ ]
  reported_all to_come failed events first (s ∷ sources) (c ∷ lanes) (l ∷ lists) (r ∷ reports) are of_lanes have =
      let zeroth : first + 0 ≡ first = omega arith in
      let own : answers_in first events ≡ r.answers =
      sym (of_lanes.1 ∙ have 0 (omega arith) ∙ ap (λ n. answers_in n events) zeroth)
      in let true_to : List AnswerValue → ClosedLane S → Type 0 = IsTrueToSource to_come failed (arc_value s.1) s.0 in (
        subst (λ answers. true_to answers (record { source = r.source; end = Some r.end })) own
            (subst (λ (end : Option LaneEnd). true_to (answers_in first events) (record { source = r.source; end = end })) of_lanes.2
            (subst (λ source. true_to (answers_in first events) (record { source = source; end = c.end })) (sym of_lanes.0)
            (closed_line to_come failed (arc_value s.1) s.0 (answers_in first events) c are.1))),
        reported_all to_come failed events (first + 1) sources lanes lists reports are.2 of_lanes.3 (
            λ i below.
            let next : first + suc i ≡ first + 1 + i = omega arith in
            have (suc i) (omega (arith, below)) ∙ ap (λ n. answers_in n events) next
            ),
      )

-- lists of which nothing came yet
pub none_kept : (lanes : ℕ) (lists : List (List AnswerValue)) → lists ≡ replicate lanes [] → (lane : ℕ) → lane < length lists
    → get_or lists lane [] ≡ answers_in lane []
none_kept lanes lists is = λ lane below. ap (λ l. get_or l lane []) is ∙ all_none lanes lane
  where
    all_none : (n i : ℕ) → get_or {A = List AnswerValue} (replicate n []) i [] ≡ []
    all_none zero i = refl
    all_none (suc n) zero = refl
    all_none (suc n) (suc i) = all_none n i

-- a lane for each source
pub closed_length : {S : Type 0} (to_come : S → Option (List (List ℕ))) (failed : S → Option SourceFault) (events : List (Event AnswerValue)) (first : ℕ)
    (sources : List (S × Arc TermsValue Global)) (lanes : List (ClosedLane S)) → AreClosedOf (gives_known to_come failed) made events first sources lanes
    → length lanes ≡ length sources
closed_length to_come failed events first [] [] are = refl
closed_length to_come failed events first [] (c ∷ lanes) are = elim are [ ]
closed_length to_come failed events first (s ∷ sources) [] are = elim are [ ]
closed_length to_come failed events first (s ∷ sources) (c ∷ lanes) are =
    ap suc (closed_length to_come failed events (first + 1) sources lanes are.2)

module _ {S : Type 0} where
  -- the reports of a run whose answers were kept
  pub reported_kept : (to_come : S → Option (List (List ℕ))) (failed : S → Option SourceFault) (sources : List (S × Arc TermsValue Global))
      (lanes : List (ClosedLane S)) (lists : List (List AnswerValue)) (reports : List (LaneReport S))
      → (events : List (Event AnswerValue))
      × ((lane : ℕ) → lane < length lists → get_or lists lane [] ≡ answers_in lane events)
      × AreClosedOf (gives_known to_come failed) made events 0 sources lanes × HasNoOthers events (length sources)
      → AreReportsOf lanes lists reports → AreReported to_come failed sources reports
  reported_kept to_come failed sources lanes lists reports (events, kept, are, others) of_lanes =
      reported_all to_come failed events 0 sources lanes lists reports are of_lanes (
      λ i below. let at : 0 + i ≡ i = omega arith in kept i below ∙ ap (λ n. answers_in n events) (sym at)
      )

-- what is said of a good answer
pub by_ok : {T E : Type 0} (P : T → Type 0) (r : Result T E) (x : T) → r ≡ Ok x → IfOk r P → P x
by_ok P r x is all = subst (λ y. IfOk y P) is all
