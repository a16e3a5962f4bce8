-- The state of a batch whose output is written as the results arrive.
-- This project's own.
use Rattle.std.specs.Prelude.{◌≡◌, ℕ, ◌+◌, List, [], ◌∷◌, ◌++◌, length, Option}
use Rattle.std.specs.Io.KnownBytes.{Appends}
use Rattle.run_plan.specs.declared.version.Version.{Version}
use Rattle.batch.specs.Events.{Event, answers_in, of_lane}
use Rattle.formats.specs.Records.{version_of}
use Rattle.line_chunks.specs.ChunkText.{ChunkTextValue, RecordStyle}
use Rattle.run_texts.specs.RunText.{head_text}
use Rattle.run_texts.specs.LaneText.{events_lines, records_of, refused_of}
use Rattle.run_texts.specs.Streaming.{SourceLine, merged_text, of_source}
use Rattle.run_texts.specs.declared.record_count.RecordCount.{RecordCount}
use Rattle.run_texts.specs.declared.stream.Stream.{Stream}

-- these are the output lines of these events; the number of a source is the index of its lane plus 1
abbrev pub AreLinesOf : Version → List (Event ChunkTextValue) → List SourceLine → Type 0
AreLinesOf version events lines =
    (of_source 0 lines ≡ [])
    × ((lane : ℕ) → of_source (lane + 1) lines ≡ events_lines (lane + 1) version 0 (of_lane lane events))

-- the counts are the number of records of these blocks and the number of refused lines among them
abbrev pub IsCountOf : RecordCount → List ChunkTextValue → Type 0
IsCountOf count texts = (count.records ≡ records_of texts) × (count.refused ≡ refused_of texts)

-- these are the counts of the blocks of each lane; the first lane has this index
abbrev pub AreCounts : List (Event ChunkTextValue) → ℕ → List RecordCount → Type 0
AreCounts events number [] = Unit {0}
AreCounts events number (count ∷ counts) = IsCountOf count (answers_in number events) × AreCounts events (number + 1) counts

-- the first bytes of a buffer were written, and the other bytes are left in it
abbrev pub MovesOut : Option (List ℕ) → List ℕ → Option (List ℕ) → List ℕ → Type 0
MovesOut before block after left = (written : List ℕ) × Appends before after written × (written ++ left ≡ block)

-- the bytes that were written, followed by the bytes in the buffer, are the first line of the record format,
-- if it has one, and then the lines of these events
abbrev pub AreOut : Version → List (Event ChunkTextValue) → Option (List ℕ) → Option (List ℕ) → List ℕ → Type 0
AreOut version events before after block =
    (lines : List SourceLine)
    × AreLinesOf version events lines
    × MovesOut before (head_text version ++ merged_text lines) after block

-- the state of a stream at its start: the contents of its writer, the name of the reference to the writer,
-- the encoding and the record format, and the number of lanes
pub record StreamStart : Type 0 where
  pub before : Option (List ℕ)
  pub name : ℕ
  pub style : RecordStyle
  pub lanes : ℕ

module _ {W : Type 0} where
  -- a stream that began in this state has taken these events
  abbrev pub IsStreamOf : (W → Option (List ℕ)) → StreamStart → Stream W → List (Event ChunkTextValue) → Type 0
  IsStreamOf contents start stream events =
      (stream.out.ghost_name ≡ start.name)
      × (stream.version ≡ version_of start.style.format)
      × (length stream.counts.items ≡ start.lanes)
      × AreCounts events 0 stream.counts.items
      × AreOut (version_of start.style.format) events start.before (contents stream.out.now) stream.buffer.items
