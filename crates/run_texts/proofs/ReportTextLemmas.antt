-- The reports of a run whose texts were kept, and their text.
use Rattle.std.proofs.Common.{◌≡◌, ◌<◌, ℕ, ◌+◌, ◌^◌, List, [], ◌∷◌, ◌++◌, length, sum_by, flat_map, All, Option, arith, refl, ap, subst, ◌∙◌}
use Rattle.std.proofs.lemmas.List.Elements.{All-head, All-tail}
use Rattle.std.specs.Prelude.{IsSome}
use Rattle.std.specs.List.{concat}
use Rattle.std.specs.declared.sync.Arc.{Arc}
use Rattle.std.specs.declared.alloc.Global.{Global}
use Rattle.std.specs.Io.KnownBytes.{Appends}
use Rattle.run_plan.specs.declared.version.Version.{Version}
use Rattle.set_line.specs.Answer.{AnswerValue}
use Rattle.set_line.specs.Terms.{TermsValue}
use Rattle.lanes.specs.declared.fault.SourceFault.{SourceFault}
use Rattle.lanes.specs.declared.ending.LaneEnd.{LaneEnd}
use Rattle.formats.specs.Records.{version_of}
use Rattle.line_chunks.specs.ChunkText.{ChunkTextValue, RecordStyle}
use Rattle.batch.specs.Events.{Event, LaneEvent, answers_among, answers_in, lane_events, of_lane}
use Rattle.set_run.specs.Reports.{AreReported}
use Rattle.set_run.specs.declared.report.LaneReport.{LaneReport}
use Rattle.batch.specs.declared.run_end.ClosedLane.{ClosedLane}
use Rattle.run_texts.specs.RunText.{head_text, lane_text, why_of}
use Rattle.run_texts.specs.LaneText.{AreKept, LaneTextValue, events_lines, records_of}
use Rattle.run_texts.specs.ChunkLanes.{AreClosedIn, AreRecordsOf, IsCollectedIn}
use Rattle.run_texts.specs.ReportText.{lanes_text, run_text, summary_of_lanes}
use Rattle.run_texts.specs.Setting.{IsWritten}
use Rattle.run_texts.specs.declared.summary.Summary.{Summary}
use Rattle.run_texts.proofs.EventLemmas.{lane_joined, lane_lined}
use Rattle.run_texts.proofs.ReportLemmas.{AreRefused, HasEnd, are_reported, end_or, reports_of, some_end, summary_of_reports}
use Rattle.run_texts.proofs.LaneTextLemmas.{Given}

-- ---- the text of a lane

kept_text : (source : ℕ) (style : RecordStyle) (events : List (LaneEvent ChunkTextValue)) (answers : List AnswerValue) (end : Option LaneEnd)
    → events ≡ lane_events (answers_among events) end → AreRecordsOf source style answers (answers_among events)
    → 1 + records_of (answers_among events) < 2 ^ 64 → IsSome end
    → concat (events_lines source (version_of style.format) 0 events) ≡ lane_text source style answers (why_of (end_or end))
kept_text source style events answers end came are fits ended =
    ap concat (lane_lined source style events answers (end_or end) (came ∙ ap (lane_events (answers_among events)) (some_end end ended)) are
    (omega (arith, fits, are.0)))
    ∙ lane_joined source style answers (end_or end)

-- the refused lines that are kept
kept_refused : (version : Version) (events : List (Event ChunkTextValue)) (number : ℕ) (texts : List LaneTextValue) → AreKept version events number texts
    → AreRefused events (λ (text : LaneTextValue). text.refused) number texts
kept_refused version events number [] kept = tt
kept_refused version events number (t ∷ texts) kept = (
  ap (λ (v : LaneTextValue). v.refused) kept.0,
  subst (λ (v : LaneTextValue). 1 + v.records < 2 ^ 64) kept.0 kept.1,
  kept_refused version events (number + 1) texts kept.2,
)

module _ {S : Type 0} (to_come : S → Option (List (List ℕ))) (failed : S → Option SourceFault) (style : RecordStyle) (events : List (Event ChunkTextValue)) where
  texts_of : (number : ℕ) (sources : List (S × Arc TermsValue Global)) (lanes : List (ClosedLane S)) (texts : List LaneTextValue)
      → length texts ≡ length sources → (closed : AreClosedIn to_come failed style events number sources lanes) → All (λ lane. IsSome lane.end) lanes
      → AreKept (version_of style.format) events number texts
      → flat_map (λ text. text.text) texts ≡ lanes_text (number + 1) style (reports_of to_come failed style events number sources lanes closed)
  texts_of number [] [] [] long closed whole kept = refl
  texts_of number [] [] (t ∷ texts) long closed whole kept = absurd (omega (arith, long))
  texts_of number [] (l ∷ lanes) texts long closed whole kept = absurd closed
  texts_of number (s ∷ sources) [] texts long closed whole kept = absurd closed
  texts_of number (s ∷ sources) (l ∷ lanes) [] long closed whole kept = absurd (omega (arith, long))
  texts_of number (s ∷ sources) (l ∷ lanes) (t ∷ texts) long closed whole kept =
      let fits : 1 + records_of (answers_in number events) < 2 ^ 64 = subst (λ (v : LaneTextValue). 1 + v.records < 2 ^ 64) kept.0 kept.1 in
      ap (λ more. t.text ++ more) (texts_of (number + 1) sources lanes texts (omega (arith, long)) closed.2 (All-tail HasEnd l lanes whole) kept.2)
      ∙ ap (λ own. own ++ lanes_text (number + 1 + 1) style (reports_of to_come failed style events (number + 1) sources lanes closed.2))
      (ap (λ (v : LaneTextValue). v.text) kept.0
      ∙ kept_text (number + 1) style (of_lane number events) closed.1.0 l.end closed.0 closed.1.1 fits (All-head HasEnd l lanes whole))

module _ {S C : Type 0} (form_of : C → Version) (lanes_of : C → List LaneTextValue) (version : Version) where
  -- what was written of the texts that were kept of a run is the output of its reports
  pub kept_run : (to_come : S → Option (List (List ℕ))) (failed : S → Option SourceFault) (sources : List (S × Arc TermsValue Global))
      (lanes : List (ClosedLane S)) (before after : C) (style : RecordStyle) (count : ℕ) (w w' : Option (List ℕ)) (summary : Summary)
      → version ≡ (version_of style.format) → count ≡ length sources → Given form_of lanes_of version count before [] → All (λ lane. IsSome lane.end) lanes
      → IsCollectedIn to_come failed style (Given form_of lanes_of version count) sources lanes before after
      → Appends w w' (head_text (form_of after) ++ flat_map (λ text. text.text) (lanes_of after))
      → summary ≡ summary_of_lanes (sum_by (λ text. text.refused) (lanes_of after)) lanes
      → (reports : List (LaneReport S)) × AreReported to_come failed sources reports × IsWritten style reports w w' summary
  kept_run to_come failed sources lanes before after style count w w' summary asked many begun ended collected written is =
      let came = collected begun in
      let events : List (Event ChunkTextValue) = came.0 in
      let closed : AreClosedIn to_come failed style events 0 sources lanes = came.2 in
      let kept : AreKept (version_of style.format) events 0 (lanes_of after) = subst (λ v. AreKept v events 0 (lanes_of after)) asked came.1.2 in
      let reports : List (LaneReport S) = reports_of to_come failed style events 0 sources lanes closed in
      let long : length (lanes_of after) ≡ length sources = came.1.1 ∙ many in
      let texts : flat_map (λ text. text.text) (lanes_of after) ≡ lanes_text 1 style reports =
      texts_of to_come failed style events 0 sources lanes (lanes_of after) long closed ended kept in
      let text : head_text (form_of after) ++ flat_map (λ text. text.text) (lanes_of after) ≡ run_text style reports =
      ap (λ v. head_text v ++ flat_map (λ text. text.text) (lanes_of after)) (came.1.0 ∙ asked) ∙ ap (λ t. head_text (version_of style.format) ++ t) texts in (
        reports,
        are_reported to_come failed style events 0 sources lanes closed ended,
        (
          subst (Appends w w') text written,
          is ∙ summary_of_reports to_come failed style events (λ (text : LaneTextValue). text.refused) sources lanes (lanes_of after) closed ended
              (kept_refused (version_of style.format) events 0 (lanes_of after) kept) long,
        ),
      )
