-- What is printed of readers is what is printed of what is known of them.
use Rattle.std.proofs.Common.{◌≡◌, ◌⊎◌, inl, inr, ℕ, Bool, List, [], ◌∷◌, ◌++◌, map, Option, Some, None, refl, ap, sym, subst, ◌∙◌}
use Rattle.std.specs.List.{AllZip}
use Rattle.std.specs.Prelude.{IfErr, IfOk, IfSome, Result, Ok, Err}
use Rattle.std.specs.declared.alloc.Global.{Global}
use Rattle.std.specs.declared.sync.Arc.{Arc}
use Rattle.std.specs.Io.KnownBytes.{Keeps}
use Rattle.set_line.specs.Terms.{TermsValue}
use Rattle.formats.specs.Records.{version_of}
use Rattle.line_chunks.specs.ChunkText.{RecordStyle}
use Rattle.line_chunks.specs.Reading.{Told, told_unread}
use Rattle.set_run.specs.Reports.{IsReported}
use Rattle.set_run.specs.declared.report.LaneReport.{LaneReport}
use Rattle.run_texts.specs.ChunkLanes.{AreReadReports, fault_told, lines_told}
use Rattle.run_texts.specs.Endings.{summary_status}
use Rattle.run_texts.specs.ReportText.{run_text, summary_of_run}
use Rattle.run_texts.specs.RunText.{head_text}
use Rattle.run_texts.specs.Streaming.{merged_text}
use Rattle.run_texts.specs.Setting.{IsWritten}
use Rattle.run_texts.specs.declared.summary.Summary.{Summary}
use Rattle.run_texts.specs.declared.fault.ToolFault.{ToolFault}
use Rattle.run_texts.specs.declared.fault.ToolFault.TheVariants.{Font, Run, OutOfMemory, Write}
use Rattle.batch.specs.declared.run_fault.RunFault.{RunFault}
use Rattle.batch.specs.declared.run_fault.RunFault.TheVariants.{OutOfMemory as NoMemory, Thread}
use Rattle.tfm_tables.specs.declared.fault.FontFault.{FontFault}
use Rattle.tfm_requests.specs.Status.{tool_status}
use Rattle.tfm_requests.specs.Jobs.{told_with_terms}
use Rattle.tfm_requests.specs.Told.{IsSourceOf, told_reader}
use Rattle.tfm_requests.specs.declared.batches.delivery.Delivery.{Delivery}
use Rattle.tfm_requests.specs.declared.batches.delivery.Delivery.TheVariants.{AtTheEnd, AsTheyCome}
use Rattle.tfm_requests.proofs.CheckingLemmas.{kept_text}
use Rattle.tfm_requests.specs.Requests.{IsDelivered, IsPrinted}

-- a reader of known bytes
pub source_of : (crlf : Bool) (bytes left : Option (List ℕ)) → IfSome bytes (λ all. left ≡ Some all) → IsSourceOf crlf bytes (told_unread crlf left)
source_of crlf None left is = (tt, refl)
source_of crlf (Some all) left is = (ap (λ known. (told_unread crlf known).lines) is, refl)

-- a reader of the bytes that are left of it
pub source_of_itself : (crlf : Bool) (bytes : Option (List ℕ)) → IsSourceOf crlf bytes (told_unread crlf bytes)
source_of_itself crlf None = source_of crlf None None tt
source_of_itself crlf (Some all) = source_of crlf (Some all) (Some all) refl

pub ruleset sources = (source_of)

module _ {R : Type 0} (remaining : R → Option (List ℕ)) (crlf : Bool) where
  reported : (readers : List (R × Arc TermsValue Global)) (reports : List (LaneReport Told)) → AreReadReports remaining crlf readers reports
      → AllZip (λ source report. IsReported lines_told fault_told source.1 source.0 report)
      (map (told_with_terms (told_reader remaining crlf)) readers) reports
  reported [] [] are = tt
  reported [] (r ∷ reports) are = elim are [ ]
  reported (s ∷ readers) [] are = elim are [ ]
  reported (s ∷ readers) (r ∷ reports) are = (are.0, reported readers reports are.1)

  still_delivered : (delivery : Delivery) (style : RecordStyle) (reports : List (LaneReport Told)) (w w' w'' : Option (List ℕ))
      → IsDelivered delivery style reports w w' → Keeps w' w'' → IsDelivered delivery style reports w w''
  still_delivered AtTheEnd style reports w w' w'' is kept = kept_text w w' w'' (run_text style reports) is kept
  still_delivered AsTheyCome style reports w w' w'' is kept =
      (is.0, is.1, kept_text w w' w'' (head_text (version_of style.format) ++ merged_text is.0) is.2 kept)

  -- the output of a batch that was written, and then perhaps flushed
  pub printed_before : (delivery : Delivery) (style : RecordStyle)
      (readers : List (R × Arc TermsValue Global)) (w w' w'' : Option (List ℕ)) (summary : Summary) (status : ℕ)
      → ((reports : List (LaneReport Told)) × AreReadReports remaining crlf readers reports
      × IsDelivered delivery style reports w w' × (summary ≡ summary_of_run style.encoding reports))
      → Keeps w' w'' → status ≡ summary_status summary
      → IsPrinted delivery (map (told_with_terms (told_reader remaining crlf)) readers) style w w'' status
  printed_before delivery style readers w w' w'' summary status text kept is =
      (text.0, reported readers text.0 text.1, still_delivered delivery style text.0 w w' w'' text.2 kept, is ∙ ap summary_status text.3)

  -- output that was kept until the batch was done is delivered at its end
  pub kept_delivered : (delivery : Delivery) (style : RecordStyle) (readers : List (R × Arc TermsValue Global))
      (w w' : Option (List ℕ)) (r : Result Summary ToolFault) → delivery ≡ AtTheEnd
      → IfOk r (λ summary. (reports : List (LaneReport Told)) × AreReadReports remaining crlf readers reports × IsWritten style reports w w' summary)
      → IfOk r (λ summary. (reports : List (LaneReport Told)) × AreReadReports remaining crlf readers reports
      × IsDelivered delivery style reports w w' × (summary ≡ summary_of_run style.encoding reports))
  kept_delivered delivery style readers w w' (Ok summary) is text =
      (text.0, text.1, subst (λ d. IsDelivered d style text.0 w w') (sym is) text.2.0, text.2.1)
  kept_delivered delivery style readers w w' (Err fault) is text = text

-- a batch of at most 64 readers fails only for want of memory, of a thread, or of the writer
pub stops : {A : Type 0} (r : Result A ToolFault) → ((fault : FontFault) → r ≡ Err (Font fault) → ⊥)
    → ((fault : RunFault) → r ≡ Err (Run fault) → (fault ≡ NoMemory) ⊎ (fault ≡ Thread)) → IfErr r (λ fault. tool_status fault ≡ 5)
stops (Ok a) font few = tt
stops (Err (Font fault)) font few = absurd (font fault refl)
stops (Err (Run fault)) font few = elim (few fault refl) [ inl is ↦ ap (λ f. tool_status (Run f)) is | inr is ↦ ap (λ f. tool_status (Run f)) is ]
stops (Err OutOfMemory) font few = refl
stops (Err Write) font few = refl
