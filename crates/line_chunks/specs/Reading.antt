-- Chunks from a reader: the lines still to come, and how a call of `next_item` changes them.
-- This project's own.
use Rattle.std.specs.Prelude.{◌≡◌, ◌≢◌, ◌<◌, ℕ, ◌+◌, ◌^◌, Bool, List, [], length, map, Option, Some, None, Result, Ok, Err}
use Rattle.std.specs.Option.{option_map}
use Rattle.std.specs.Io.KnownBytes.{IsAtEnd, prepend_known}
use Rattle.lanes.specs.declared.fault.SourceFault.{SourceFault}
use Rattle.batch.specs.Calls.{HasReturned}
use Rattle.batch.specs.Sources.{gives_known}
use Rattle.line_chunks.specs.Chunks.{ChunkValue, cut}
use Rattle.line_chunks.specs.Pending.{PendingValue, bytes_of}
use Rattle.set_line.specs.Returns.{lines_in}
use Rattle.line_chunks.specs.declared.chunk_reader.ChunkReader.{ChunkReader}
use Rattle.line_chunks.specs.declared.chunk_reader.ChunkReaderState.{ChunkReaderState}
use Rattle.line_chunks.specs.declared.chunk_reader.ChunkReaderState.TheVariants.{Open, AtEnd, Failed}
use Rattle.line_chunks.specs.declared.input.Filling.{Filling}
use Rattle.line_chunks.specs.declared.input.Filling.TheVariants.{Lines, End, Long}

-- the pending bytes after some reads, and the bytes that the reader still has, if these are known
abbrev pub IsFilled : Filling → PendingValue → Option (List ℕ) → Type 0
IsFilled Lines pending left = pending.lines ≢ []
IsFilled End pending left = (pending.lines ≡ []) × IsAtEnd left
IsFilled (Long reads) pending left = (pending.lines ≡ []) × (65536 < length pending.rest) × (length pending.rest < 2 ^ 63)

-- the lines of a source that are still to come, if they are known, and the read error that it has met, if any
pub record Told : Type 0 where
  pub lines : Option (List (List ℕ))
  pub fault : Option SourceFault

-- what is known of a reader with these bytes to come, if they are known; the flag states that lines may end with CR LF
abbrev pub told_by : Bool → ChunkReaderState → Option (List ℕ) → Told
told_by crlf Open bytes = record { lines = option_map (lines_in crlf) bytes; fault = None }
told_by crlf AtEnd bytes = record { lines = Some []; fault = None }
told_by crlf (Failed fault) bytes = record { lines = None; fault = Some fault }

-- a reader that wasn't read yet
abbrev pub told_unread : Bool → Option (List ℕ) → Told
told_unread crlf bytes = told_by crlf Open bytes

-- a call that returns the next line, or the end or the error, as it changes what is known
abbrev pub gives_told : Told → Result (Option (List ℕ)) SourceFault → Told → Type 0
gives_told before result after = gives_known (λ (t : Told). t.lines) (λ (t : Told). t.fault) before result after

-- a chunk of these lines, of which there is at least one, where the next line number is this one before and that
-- one after the chunk; nothing is stated about the numbers of lines if they don't fit in 64 bits
abbrev pub IsChunkOf : ℕ → List (List ℕ) → ChunkValue → ℕ → Type 0
IsChunkOf first lines chunk next =
    (lines ≡ [] → ⊥)
    × (chunk.lines ≡ map cut lines)
    × (first + length lines < 2 ^ 64 → (chunk.first ≡ first) × (next ≡ first + length lines))

-- a call that returns a chunk of the next lines, or the end or the error, as it changes what is known and the next line
-- number
abbrev pub GivesChunk : Told → ℕ → Result (Option ChunkValue) SourceFault → Told → ℕ → Type 0
GivesChunk before first (Ok (Some chunk)) after next =
    (lines : List (List ℕ)) × HasReturned gives_told before lines after × IsChunkOf first lines chunk next
GivesChunk before first (Ok None) after next = gives_told before (Ok None) after
GivesChunk before first (Err fault) after next = gives_told before (Err fault) after

module _ {R : Type 0} (remaining : R → Option (List ℕ)) where
  -- the bytes that a reader of chunks hasn't passed on, if they are known
  abbrev pub text_left : ChunkReader R → Option (List ℕ)
  text_left source = prepend_known (bytes_of source.input.pending) (remaining source.input.reader)

  -- what is known of a reader of chunks
  abbrev pub told : ChunkReader R → Told
  told source = told_by source.crlf source.state (text_left source)

  -- a call of `next_item`
  abbrev pub gives_chunk : ChunkReader R → Result (Option ChunkValue) SourceFault → ChunkReader R → Type 0
  gives_chunk before result after = GivesChunk (told before) before.next result (told after) after.next

  -- this source reads this reader, and nothing was read yet
  abbrev pub ReadsFrom : Bool → R → ChunkReader R → Type 0
  ReadsFrom crlf reader source = (told source ≡ told_unread crlf (remaining reader)) × (source.next ≡ 1)
