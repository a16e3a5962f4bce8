-- The output of a lane that is kept until the batch is done, and its counts.
-- This project's own.
use Rattle.std.specs.Prelude.{◌≡◌, ◌<◌, ℕ, ◌+◌, ◌^◌, List, [], ◌∷◌, ◌++◌, map, sum_by}
use Rattle.std.specs.List.{concat}
use Rattle.run_plan.specs.declared.version.Version.{Version}
use Rattle.line_chunks.specs.Chunks.{lines_of_chunk}
use Rattle.line_chunks.specs.ChunkText.{ChunkTextValue, record_in}
use Rattle.batch.specs.Events.{Event, LaneEvent, Answered, Ended, answers_among, of_lane}
use Rattle.run_texts.specs.RunText.{end_text, why_of}

-- the output of a lane so far, the number of its records, and the number of refused lines among them
pub record LaneTextValue : Type 0 where
  pub text : List ℕ
  pub records : ℕ
  pub refused : ℕ

-- the records of a block, each as a line
abbrev pub chunk_lines : ChunkTextValue → List (List ℕ)
chunk_lines text = map (record_in text.maker) (lines_of_chunk text.chunk)

-- the number of records of blocks
abbrev pub records_of : List ChunkTextValue → ℕ
records_of texts = sum_by (λ text. text.lines) texts

-- the number of refused lines of blocks
abbrev pub refused_of : List ChunkTextValue → ℕ
refused_of texts = sum_by (λ text. text.refused) texts

-- the output lines of an event of a source that has this many records before it
abbrev pub event_lines : ℕ → Version → ℕ → LaneEvent ChunkTextValue → List (List ℕ)
event_lines source version records (Answered text) = chunk_lines text
event_lines source version records (Ended end) = end_text source version (why_of end) records ∷ []

-- the output lines of events of a source that has this many records before them
abbrev pub events_lines : ℕ → Version → ℕ → List (LaneEvent ChunkTextValue) → List (List ℕ)
events_lines source version records [] = []
events_lines source version records (Answered text ∷ events) =
    event_lines source version records (Answered text) ++ events_lines source version (records + text.lines) events
events_lines source version records (Ended end ∷ events) =
    event_lines source version records (Ended end) ++ events_lines source version records events

-- the output and the counts of a source after these events
abbrev pub kept_of : Version → ℕ → List (LaneEvent ChunkTextValue) → LaneTextValue
kept_of version source events = record {
  text = concat (events_lines source version 0 events);
  records = records_of (answers_among events);
  refused = refused_of (answers_among events);
}

-- the output and the counts of each lane are those of its events, and each record has a line number of 64 bits;
-- the first lane has this index
abbrev pub AreKept : Version → List (Event ChunkTextValue) → ℕ → List LaneTextValue → Type 0
AreKept version events number [] = Unit {0}
AreKept version events number (lane ∷ lanes) =
    (lane ≡ kept_of version (number + 1) (of_lane number events))
    × (1 + lane.records < 2 ^ 64)
    × AreKept version events (number + 1) lanes
