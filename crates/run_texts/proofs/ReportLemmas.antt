-- The reports of a run: those of lanes that have ended, with the answers that came of them.
use Rattle.std.proofs.Common.{◌≡◌, ℕ, suc, ◌+◌, ◌<◌, ◌^◌, List, [], ◌∷◌, length, map, All, Option, Some, None, arith, refl, ap, sym, subst, ◌∙◌, sum_by}
use Rattle.std.proofs.lemmas.List.Sums.{sum_by-cons}
use Rattle.std.proofs.lemmas.List.Elements.{All-head, All-tail}
use Rattle.std.specs.Prelude.{IsSome}
use Rattle.std.specs.Arc.{arc_value}
use Rattle.std.specs.declared.sync.Arc.{Arc}
use Rattle.std.specs.declared.alloc.Global.{Global}
use Rattle.set_line.specs.Terms.{TermsValue}
use Rattle.lanes.specs.declared.fault.SourceFault.{SourceFault}
use Rattle.lanes.specs.declared.ending.LaneEnd.{LaneEnd}
use Rattle.lanes.specs.declared.ending.LaneEnd.TheVariants.{Complete}
use Rattle.line_chunks.specs.ChunkText.{ChunkTextValue, RecordStyle}
use Rattle.batch.specs.Events.{Event, answers_in}
use Rattle.set_run.specs.Reports.{AreReported, IsTrueToSource}
use Rattle.set_run.specs.declared.report.LaneReport.{LaneReport}
use Rattle.batch.specs.declared.run_end.ClosedLane.{ClosedLane}
use Rattle.run_texts.specs.ChunkLanes.{AreClosedIn}
use Rattle.run_texts.specs.LaneText.{records_of, refused_of}
use Rattle.run_texts.specs.RunText.{refused_lines}
use Rattle.run_texts.specs.ReportText.{summary_of_ends, summary_of_lanes, summary_of_run}

-- ---- a lane with an end

abbrev pub end_or : Option LaneEnd → LaneEnd
end_or None = Complete
end_or (Some end) = end

pub some_end : (end : Option LaneEnd) → IsSome end → end ≡ Some (end_or end)
some_end None is = absurd (cc)
some_end (Some end) is = refl

module _ {S : Type 0} where
  abbrev pub HasEnd : ClosedLane S → Type 0
  HasEnd lane = IsSome lane.end

-- these are the numbers of refused lines of lanes, whose line numbers fit in 64 bits; the first lane has this
-- number
abbrev pub AreRefused : {T : Type 0} → List (Event ChunkTextValue) → (T → ℕ) → ℕ → List T → Type 0
AreRefused events count number [] = Unit {0}
AreRefused events count number (c ∷ counts) = (count c ≡ refused_of (answers_in number events)) × (1 + records_of (answers_in number events) < 2 ^ 64) × AreRefused events count (number + 1) counts

module _ {S : Type 0} (to_come : S → Option (List (List ℕ))) (failed : S → Option SourceFault) (style : RecordStyle) (events : List (Event ChunkTextValue)) where
  -- the reports of lanes, of which the first has this number, with the results whose records came
  abbrev pub reports_of : (number : ℕ) (sources : List (S × Arc TermsValue Global)) (lanes : List (ClosedLane S))
      → AreClosedIn to_come failed style events number sources lanes → List (LaneReport S)
  reports_of number [] [] closed = []
  reports_of number [] (l ∷ lanes) closed = absurd closed
  reports_of number (s ∷ sources) [] closed = absurd closed
  reports_of number (s ∷ sources) (l ∷ lanes) closed =
      record { source = l.source; answers = closed.1.0; end = end_or l.end } ∷ reports_of (number + 1) sources lanes closed.2

  pub are_reported : (number : ℕ) (sources : List (S × Arc TermsValue Global)) (lanes : List (ClosedLane S))
      (closed : AreClosedIn to_come failed style events number sources lanes) → All (λ lane. IsSome lane.end) lanes
      → AreReported to_come failed sources (reports_of number sources lanes closed)
  are_reported number [] [] closed whole = tt
  are_reported number [] (l ∷ lanes) closed whole = absurd closed
  are_reported number (s ∷ sources) [] closed whole = absurd closed
  are_reported number (s ∷ sources) (l ∷ lanes) closed whole = (
    subst (λ (end : Option LaneEnd). IsTrueToSource to_come failed (arc_value s.1) s.0 closed.1.0 (record { source = l.source; end = end }))
        (some_end l.end (All-head HasEnd l lanes whole)) closed.1.2,
    are_reported (number + 1) sources lanes closed.2 (All-tail HasEnd l lanes whole),
  )

  -- how many reports there are
  pub as_many : (number : ℕ) (sources : List (S × Arc TermsValue Global)) (lanes : List (ClosedLane S))
      (closed : AreClosedIn to_come failed style events number sources lanes) → length (reports_of number sources lanes closed) ≡ length sources
  as_many number [] [] closed = refl
  as_many number [] (l ∷ lanes) closed = absurd closed
  as_many number (s ∷ sources) [] closed = absurd closed
  as_many number (s ∷ sources) (l ∷ lanes) closed = ap suc (as_many (number + 1) sources lanes closed.2)

  -- the ends of the reports are those of the lanes
  pub ends_of : (number : ℕ) (sources : List (S × Arc TermsValue Global)) (lanes : List (ClosedLane S))
      (closed : AreClosedIn to_come failed style events number sources lanes) → All (λ lane. IsSome lane.end) lanes
      → map (λ lane. lane.end) lanes ≡ map (λ lane. Some lane.end) (reports_of number sources lanes closed)
  ends_of number [] [] closed whole = refl
  ends_of number [] (l ∷ lanes) closed whole = absurd closed
  ends_of number (s ∷ sources) [] closed whole = absurd closed
  ends_of number (s ∷ sources) (l ∷ lanes) closed whole =
      ap (λ more. l.end ∷ more) (ends_of (number + 1) sources lanes closed.2 (All-tail HasEnd l lanes whole))
      ∙ ap (λ end. end ∷ map (λ lane. Some lane.end) (reports_of (number + 1) sources lanes closed.2)) (some_end l.end (All-head HasEnd l lanes whole))

  -- the refused lines of the lanes, by their counts
  pub refusals_of : {T : Type 0} (count : T → ℕ) (number : ℕ) (sources : List (S × Arc TermsValue Global)) (lanes : List (ClosedLane S)) (counts : List T)
      (closed : AreClosedIn to_come failed style events number sources lanes) → AreRefused events count number counts → length counts ≡ length sources
      → sum_by count counts ≡ sum_by (λ lane. refused_lines style.encoding lane.answers) (reports_of number sources lanes closed)
  refusals_of count number [] [] [] closed are long = refl
  refusals_of count number [] [] (c ∷ counts) closed are long = absurd (omega (arith, long))
  refusals_of count number [] (l ∷ lanes) counts closed are long = absurd closed
  refusals_of count number (s ∷ sources) [] counts closed are long = absurd closed
  refusals_of count number (s ∷ sources) (l ∷ lanes) [] closed are long = absurd (omega (arith, long))
  refusals_of count number (s ∷ sources) (l ∷ lanes) (c ∷ counts) closed are long =
      sum_by-cons count c counts
      ∙ ap (λ more. count c + more) (refusals_of count (number + 1) sources lanes counts closed.2 are.2 (omega (arith, long)))
      ∙ ap (λ n. n + sum_by (λ lane. refused_lines style.encoding lane.answers) (reports_of (number + 1) sources lanes closed.2)) (are.0 ∙ (closed.1.1.1 (omega (arith, are.1, closed.1.1.0))).0)
      ∙ sym (sum_by-cons (λ (lane : LaneReport S). refused_lines style.encoding lane.answers)
      (record { source = l.source; answers = closed.1.0; end = end_or l.end }) (reports_of (number + 1) sources lanes closed.2))

  -- the summary of the lanes is that of the reports
  pub summary_of_reports : {T : Type 0} (count : T → ℕ) (sources : List (S × Arc TermsValue Global)) (lanes : List (ClosedLane S)) (counts : List T)
      (closed : AreClosedIn to_come failed style events 0 sources lanes) → All (λ lane. IsSome lane.end) lanes
      → AreRefused events count 0 counts → length counts ≡ length sources
      → summary_of_lanes (sum_by count counts) lanes ≡ summary_of_run style.encoding (reports_of 0 sources lanes closed)
  summary_of_reports count sources lanes counts closed whole are long =
      ap (λ n. summary_of_ends n (map (λ lane. lane.end) lanes)) (refusals_of count 0 sources lanes counts closed are long)
      ∙ ap (summary_of_ends (sum_by (λ lane. refused_lines style.encoding lane.answers) (reports_of 0 sources lanes closed))) (ends_of 0 sources lanes closed whole)
