-- The closed lanes of a batch whose results are the texts of chunks, compared with the lines of the readers.
-- This project's own.
use Rattle.std.specs.Prelude.{◌≡◌, ◌<◌, ℕ, ◌+◌, ◌^◌, Bool, List, [], ◌∷◌, length, map, flat_map, Option}
use Rattle.std.specs.Arc.{arc_value}
use Rattle.std.specs.declared.sync.Arc.{Arc}
use Rattle.std.specs.declared.alloc.Global.{Global}
use Rattle.set_line.specs.Terms.{TermsValue}
use Rattle.set_line.specs.Answer.{AnswerValue}
use Rattle.lanes.specs.declared.fault.SourceFault.{SourceFault}
use Rattle.line_chunks.specs.Chunks.{ChunkValue, cut, lines_of_chunk, numbered_cuts}
use Rattle.line_chunks.specs.ChunkText.{ChunkTextValue, MakerValue, RecordStyle, chunk_text}
use Rattle.line_chunks.specs.Reading.{ReadsFrom, Told, told, told_unread}
use Rattle.line_chunks.specs.declared.chunk_reader.ChunkReader.{ChunkReader}
use Rattle.batch.specs.Closed.{AreClosedBy, AreCollectedBy}
use Rattle.batch.specs.Events.{Event}
use Rattle.set_run.specs.Reports.{AreReported, IsTrueToSource}
use Rattle.set_run.specs.declared.report.LaneReport.{LaneReport}
use Rattle.batch.specs.declared.run_end.ClosedLane.{ClosedLane}
use Rattle.run_texts.specs.RunText.{refused_lines}
use Rattle.run_texts.specs.LaneText.{chunk_lines, records_of, refused_of}
use Rattle.run_texts.specs.Streaming.{record_lines}

-- the texts of chunks of these lines. The lines are numbered from 1, if their numbers fit in 64 bits
abbrev pub AreTextsOf : MakerValue → List (List ℕ) → List ChunkTextValue → Type 0
AreTextsOf maker lines texts =
    (chunks : List ChunkValue)
    × (texts ≡ map (chunk_text maker) chunks)
    × (flat_map (λ chunk. chunk.lines) chunks ≡ map cut lines)
    × (1 + length lines < 2 ^ 64 → flat_map lines_of_chunk chunks ≡ numbered_cuts 1 lines)

-- the texts of the chunks of a source have the records of these results, each as a line, and are counted right;
-- nothing is stated about the records and the refused lines if a line number doesn't fit in 64 bits
abbrev pub AreRecordsOf : ℕ → RecordStyle → List AnswerValue → List ChunkTextValue → Type 0
AreRecordsOf source style answers texts =
    (records_of texts ≡ length answers)
    × (1 + length answers < 2 ^ 64
    → (refused_of texts ≡ refused_lines style.encoding answers) × (flat_map chunk_lines texts ≡ record_lines source 1 style answers))

module _ {S : Type 0} (to_come : S → Option (List (List ℕ))) (failed : S → Option SourceFault) where
  -- the texts of chunks of the closed lane with this index have the records of some results, and with these results
  -- the lane agrees with its source
  abbrev pub IsClosedIn : RecordStyle → ℕ → S × Arc TermsValue Global → List ChunkTextValue → ClosedLane S → Type 0
  IsClosedIn style number source texts lane =
      (answers : List AnswerValue) × AreRecordsOf (number + 1) style answers texts
      × IsTrueToSource to_come failed (arc_value source.1) source.0 answers lane

  -- the closed lanes of sources, of which the first has the lane with this index
  abbrev pub AreClosedIn :
      RecordStyle → List (Event ChunkTextValue) → ℕ → List (S × Arc TermsValue Global) → List (ClosedLane S) → Type 0
  AreClosedIn style events number sources lanes = AreClosedBy (IsClosedIn style) events number sources lanes

  -- what a collector of the texts of chunks has received in a batch with these sources
  abbrev pub IsCollectedIn :
      {C : Type 0} → RecordStyle → (C → List (Event ChunkTextValue) → Type 0) → List (S × Arc TermsValue Global) → List (ClosedLane S) → C → C → Type 0
  IsCollectedIn style given sources lanes before after = AreCollectedBy (IsClosedIn style) given sources lanes before after

-- ---- readers

-- the lines that are still to come, if they are known
abbrev pub lines_told : Told → Option (List (List ℕ))
lines_told told = told.lines

-- the read error
abbrev pub fault_told : Told → Option SourceFault
fault_told told = told.fault

-- the maker of the records of the source with this number
abbrev pub maker_of : RecordStyle → ℕ → TermsValue → MakerValue
maker_of style number terms = record { terms = terms; source = number; style = style }

module _ {R : Type 0} (remaining : R → Option (List ℕ)) (crlf : Bool) where
  -- what is known of each reader, with its settings; the flag states that lines may end with CR LF
  abbrev pub told_readers : List (R × Arc TermsValue Global) → List (Told × Arc TermsValue Global)
  told_readers readers = map (λ reader. (told_unread crlf (remaining reader.0), reader.1)) readers

  -- each reader as a source of chunks, with the maker of its records; the first source has this number
  abbrev pub AreReadBy : RecordStyle → ℕ → List (R × Arc TermsValue Global) → List (ChunkReader R × MakerValue) → Type 0
  AreReadBy style number [] [] = Unit {0}
  AreReadBy style number [] (source ∷ sources) = ⊥
  AreReadBy style number (reader ∷ readers) [] = ⊥
  AreReadBy style number (reader ∷ readers) (source ∷ sources) =
      ReadsFrom remaining crlf reader.0 source.0
      × (source.1 ≡ maker_of style number (arc_value reader.1))
      × AreReadBy style (number + 1) readers sources

  -- reports of the lines of these readers, in the same order; the source that a report contains is what is known of the
  -- reader after the batch
  abbrev pub AreReadReports : List (R × Arc TermsValue Global) → List (LaneReport Told) → Type 0
  AreReadReports readers reports = AreReported lines_told fault_told (told_readers readers) reports

module _ {R : Type 0} (remaining : R → Option (List ℕ)) where
  -- the closed lane of a reader of chunks, with what is known of the reader
  abbrev pub told_lane : ClosedLane (ChunkReader R) → ClosedLane Told
  told_lane lane = record { source = told remaining lane.source; end = lane.end }
