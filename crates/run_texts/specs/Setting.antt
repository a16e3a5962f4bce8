-- The relations of the reports and the output of a batch to its sources.
-- This project's own.
use Rattle.std.specs.Prelude.{◌≡◌, ℕ, List, map, Option}
use Rattle.std.specs.Arc.{arc_value}
use Rattle.std.specs.declared.sync.Arc.{Arc}
use Rattle.std.specs.declared.alloc.Global.{Global}
use Rattle.std.specs.Io.KnownBytes.{Appends}
use Rattle.set_line.specs.Terms.{TermsValue}
use Rattle.line_chunks.specs.ChunkText.{RecordStyle}
use Rattle.lanes.specs.declared.fault.SourceFault.{SourceFault}
use Rattle.batch.specs.Closed.{AreBack}
use Rattle.set_run.specs.Reports.{AreReported}
use Rattle.set_run.specs.declared.report.LaneReport.{LaneReport}
use Rattle.run_texts.specs.ReportText.{run_text, summary_of_run}
use Rattle.run_texts.specs.declared.summary.Summary.{Summary}

module _ {S : Type 0} where
  -- the output for these reports was written, and this is their summary
  abbrev pub IsWritten : RecordStyle → List (LaneReport S) → Option (List ℕ) → Option (List ℕ) → Summary → Type 0
  IsWritten style reports before after summary =
      Appends before after (run_text style reports) × (summary ≡ summary_of_run style.encoding reports)

  -- a pair of this source and these settings
  abbrev pub HasTerms : TermsValue → S → S × Arc TermsValue Global → Type 0
  HasTerms terms source pair = (pair.0 ≡ source) × (arc_value pair.1 ≡ terms)

module _ {S O : Type 0} where
  -- reports of these sources, in the same order; the source that a report contains has the origin of the
  -- reported one
  abbrev pub AreOwnReports :
      (S → Option (List (List ℕ))) → (S → Option SourceFault) → (S → O) → List (S × Arc TermsValue Global) → List (LaneReport S) → Type 0
  AreOwnReports to_come failed origin sources reports =
      AreReported to_come failed sources reports × AreBack origin sources (map (λ report. report.source) reports)
