-- The report of a batch on each source.
-- This project's own.
use Rattle.std.specs.Prelude.{◌≡◌, ℕ, List, [], ◌∷◌, length, take, Option, Some, None, IfSome}
use Rattle.std.specs.List.{AllZip}
use Rattle.std.specs.Arc.{arc_value}
use Rattle.std.specs.declared.sync.Arc.{Arc}
use Rattle.std.specs.declared.alloc.Global.{Global}
use Rattle.set_line.specs.Terms.{TermsValue}
use Rattle.set_line.specs.Answer.{AnswerValue, answers_of}
use Rattle.lanes.specs.declared.fault.SourceFault.{SourceFault}
use Rattle.lanes.specs.declared.ending.LaneEnd.TheVariants.{Complete, SourceFailed}
use Rattle.batch.specs.Sources.{HasGiven}
use Rattle.set_run.specs.declared.report.LaneReport.{LaneReport}
use Rattle.batch.specs.declared.run_end.ClosedLane.{ClosedLane}

-- these are the results of the first of the lines that were to come; if those weren't known, of some list of
-- lines
abbrev pub AreFirstAnswers : TermsValue → List AnswerValue → Option (List (List ℕ)) → Type 0
AreFirstAnswers terms answers (Some lines) = answers ≡ answers_of terms (take (length answers) lines)
AreFirstAnswers terms answers None = (lines : List (List ℕ)) × (answers ≡ answers_of terms lines)

-- these are the results of all lines that were to come, and none is to come any more; if the lines weren't
-- known, these are the results of some list of lines
abbrev pub AreAllAnswers : TermsValue → List AnswerValue → Option (List (List ℕ)) → Option (List (List ℕ)) → Type 0
AreAllAnswers terms answers (Some lines) after = (answers ≡ answers_of terms lines) × (after ≡ Some [])
AreAllAnswers terms answers None after = (lines : List (List ℕ)) × (answers ≡ answers_of terms lines)

module _ {S : Type 0} (to_come : S → Option (List (List ℕ))) (failed : S → Option SourceFault) where
  -- a closed lane with these settings and results agrees with its source, which is given as it was at the call: it has
  -- the results of the first lines of the source; if the lane is complete, it has the results of all lines, and the
  -- source hasn't failed; if the lane ended with an error of the source, the source has this error. A source that
  -- hasn't failed has returned its first lines, at least as many as have results, and the others are still to come
  abbrev pub IsTrueToSource : TermsValue → S → List AnswerValue → ClosedLane S → Type 0
  IsTrueToSource terms source answers lane =
      AreFirstAnswers terms answers (to_come source)
      × (lane.end ≡ Some Complete
      → (failed lane.source ≡ None) × AreAllAnswers terms answers (to_come source) (to_come lane.source))
      × ((fault : SourceFault) → lane.end ≡ Some (SourceFailed fault) → failed lane.source ≡ Some fault)
      × (failed lane.source ≡ None → HasGiven (length answers) (to_come source) (to_come lane.source))

  -- `IsTrueToSource` for the lane of a report
  abbrev pub IsReported : TermsValue → S → LaneReport S → Type 0
  IsReported terms source report =
      IsTrueToSource terms source report.answers (record { source = report.source; end = Some report.end })

  -- `IsReported` for each source with its settings and the report with the same index
  abbrev pub AreReported : List (S × Arc TermsValue Global) → List (LaneReport S) → Type 0
  AreReported sources reports = AllZip (λ source report. IsReported (arc_value source.1) source.0 report) sources reports

module _ {S : Type 0} where
  -- each source whose lines are known has the results of all of them, in order
  abbrev pub AreAnswered : (S → Option (List (List ℕ))) → List (S × Arc TermsValue Global) → List (LaneReport S) → Type 0
  AreAnswered to_come sources reports =
      AllZip (λ source report. IfSome (to_come source.0) (λ lines. report.answers ≡ answers_of (arc_value source.1) lines)) sources reports

  -- the reports of lanes that have all ended; each has the results with the same index
  abbrev pub AreReportsOf : List (ClosedLane S) → List (List AnswerValue) → List (LaneReport S) → Type 0
  AreReportsOf [] [] [] = Unit {0}
  AreReportsOf (lane ∷ lanes) (answers ∷ lists) (report ∷ reports) =
      (report.source ≡ lane.source) × (report.answers ≡ answers) × (lane.end ≡ Some report.end) × AreReportsOf lanes lists reports
  AreReportsOf _ _ _ = ⊥
