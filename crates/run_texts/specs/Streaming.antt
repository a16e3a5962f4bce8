-- The output that is written as the results arrive: the lines of all sources, merged.
-- This project's own.
use Rattle.std.specs.Prelude.{◌≡◌, ℕ, ◌+◌, ◌≤◌, ◌==◌, List, [], ◌∷◌, ◌++◌, length, All, Option, if◌then◌else◌}
use Rattle.std.specs.List.{concat}
use Rattle.std.specs.Io.KnownBytes.{Appends}
use Rattle.set_line.specs.Answer.{AnswerValue}
use Rattle.formats.specs.Records.{version_of}
use Rattle.line_chunks.specs.ChunkText.{RecordStyle}
use Rattle.lanes.specs.declared.ending.LaneEnd.{LaneEnd}
use Rattle.set_run.specs.declared.report.LaneReport.{LaneReport}
use Rattle.run_texts.specs.RunText.{end_text, head_text, lane_text, record_of, why_of}

-- the records of results, each as a line; the first one has this line number
abbrev pub record_lines : ℕ → ℕ → RecordStyle → List AnswerValue → List (List ℕ)
record_lines source place style [] = []
record_lines source place style (answer ∷ answers) =
    record_of style source place answer ∷ record_lines source (place + 1) style answers

-- the output lines of a source: the record of each of its results, and then its end line
abbrev pub lane_lines : ℕ → RecordStyle → List AnswerValue → LaneEnd → List (List ℕ)
lane_lines source style answers end =
    record_lines source 1 style answers ++ end_text source (version_of style.format) (why_of end) (length answers) ∷ []

-- a line of the output, with the number of its source
abbrev pub SourceLine : Type 0
SourceLine = ℕ × List ℕ

-- the lines of this source, in order
abbrev pub of_source : ℕ → List SourceLine → List (List ℕ)
of_source source [] = []
of_source source (line ∷ lines) = if line.0 == source then line.1 ∷ of_source source lines else of_source source lines

-- the output of all lines, one after the other
abbrev pub merged_text : List SourceLine → List ℕ
merged_text [] = []
merged_text (line ∷ lines) = line.1 ++ merged_text lines

-- each line belongs to one of this many sources, which are numbered from 1
abbrev pub AreOfSources : ℕ → List SourceLine → Type 0
AreOfSources sources lines = All (λ line. (1 ≤ line.0) × (line.0 ≤ sources)) lines

module _ {S : Type 0} where
  -- the lines of each source are those of its report, and joined together they are the part of this source in
  -- the output that is written in the order of the sources; the first source has this number
  abbrev pub HaveLines : ℕ → RecordStyle → List (LaneReport S) → List SourceLine → Type 0
  HaveLines number style [] lines = Unit {0}
  HaveLines number style (report ∷ reports) lines =
      (of_source number lines ≡ lane_lines number style report.answers report.end)
      × (concat (of_source number lines) ≡ lane_text number style report.answers (why_of report.end))
      × HaveLines (number + 1) style reports lines

  -- these are the lines of all reports, merged in some order, and no others
  abbrev pub IsMerge : RecordStyle → List (LaneReport S) → List SourceLine → Type 0
  IsMerge style reports lines = HaveLines 1 style reports lines × AreOfSources (length reports) lines

  -- the first line of the record format, if it has one, was written, and then the lines of all reports,
  -- merged
  abbrev pub IsStreamed : RecordStyle → List (LaneReport S) → Option (List ℕ) → Option (List ℕ) → Type 0
  IsStreamed style reports before after =
      (lines : List SourceLine) × IsMerge style reports lines × Appends before after (head_text (version_of style.format) ++ merged_text lines)
