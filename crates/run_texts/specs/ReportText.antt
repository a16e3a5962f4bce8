-- The output for the report of a batch, and the summary of a batch.
-- This project's own.
use Rattle.std.specs.Prelude.{ℕ, ◌+◌, Bool, true, false, List, [], ◌∷◌, ◌++◌, map, sum_by, min, ◌-◌, ◌^◌, Option, Some}
use Rattle.std.specs.List.{list_any}
use Rattle.std.specs.Option.{option_map_or}
use Rattle.encodings.specs.declared.encoding.Encoding.{Encoding}
use Rattle.formats.specs.Records.{version_of}
use Rattle.line_chunks.specs.ChunkText.{RecordStyle}
use Rattle.lanes.specs.declared.fault.SourceFault.TheVariants.{Read, OutOfMemory, ReadBound}
use Rattle.lanes.specs.declared.ending.LaneEnd.{LaneEnd}
use Rattle.lanes.specs.declared.ending.LaneEnd.TheVariants.{Complete, SourceFailed, GaveUp}
use Rattle.set_run.specs.declared.report.LaneReport.{LaneReport}
use Rattle.batch.specs.declared.run_end.ClosedLane.{ClosedLane}
use Rattle.run_texts.specs.RunText.{head_text, lane_text, refused_lines, why_of}
use Rattle.run_texts.specs.declared.summary.Summary.{Summary}

-- whether a read of the source of a lane failed, or a line needed too many reads
abbrev pub is_unread : LaneEnd → Bool
is_unread (SourceFailed Read) = true
is_unread (SourceFailed ReadBound) = true
is_unread (SourceFailed OutOfMemory) = false
is_unread Complete = false
is_unread GaveUp = false

-- whether an allocation failed in the source or the setter of a lane
abbrev pub is_wanting : LaneEnd → Bool
is_wanting (SourceFailed OutOfMemory) = true
is_wanting GaveUp = true
is_wanting (SourceFailed Read) = false
is_wanting (SourceFailed ReadBound) = false
is_wanting Complete = false

-- the summary of a batch with this many refused lines, whose lanes have these ends
abbrev pub summary_of_ends : ℕ → List (Option LaneEnd) → Summary
summary_of_ends refused ends = record {
  refused = min (2 ^ 64 - 1) refused;
  read_failed = list_any (λ end. option_map_or is_unread end false) ends;
  memory = list_any (λ end. option_map_or is_wanting end false) ends;
}

module _ {S : Type 0} where
  -- the output of lanes, one after the other; the first source has this number
  abbrev pub lanes_text : ℕ → RecordStyle → List (LaneReport S) → List ℕ
  lanes_text number style [] = []
  lanes_text number style (lane ∷ lanes) =
      lane_text number style lane.answers (why_of lane.end) ++ lanes_text (number + 1) style lanes

  -- the output of a batch: the first line of the record format, if it has one, and the output of all lanes in
  -- order
  abbrev pub run_text : RecordStyle → List (LaneReport S) → List ℕ
  run_text style lanes = head_text (version_of style.format) ++ lanes_text 1 style lanes

  -- the summary of a batch with these reports of its lanes, whose lines have this encoding
  abbrev pub summary_of_run : Option Encoding → List (LaneReport S) → Summary
  summary_of_run encoding lanes =
      summary_of_ends (sum_by (λ lane. refused_lines encoding lane.answers) lanes) (map (λ lane. Some lane.end) lanes)

  -- the summary of a batch with these closed lanes and this many refused lines
  abbrev pub summary_of_lanes : ℕ → List (ClosedLane S) → Summary
  summary_of_lanes refused lanes = summary_of_ends refused (map (λ lane. lane.end) lanes)
