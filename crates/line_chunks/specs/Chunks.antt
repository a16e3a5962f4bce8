-- Chunks: lines of a source that were read together, and their line numbers.
-- This project's own.
use Rattle.std.specs.Prelude.{ℕ, ◌+◌, nat_lt, Bool, List, [], ◌∷◌, length, map, if◌then◌else◌}
use Rattle.set_line.specs.Returns.{lines_in}
use Rattle.line_chunks.specs.declared.chunk.Contents.{Contents}
use Rattle.line_chunks.specs.declared.chunk.Contents.TheVariants.{Lines, TooLong}

-- a line in a chunk: all bytes of a line, or only the length of a line that is too long to be set
pub data ChunkLine : Type 0 where
  whole : List ℕ → ChunkLine
  too_long : ℕ → ChunkLine

-- what is known of a line in a chunk: all bytes of a line of at most 65,535 bytes, or the length of a longer line
abbrev pub cut : List ℕ → ChunkLine
cut line = if nat_lt 65535 (length line) then too_long (length line) else whole line

-- a chunk: the line number of its first line, and its lines in order
pub record ChunkValue : Type 0 where
  pub first : ℕ
  pub lines : List ChunkLine

-- a line with its line number
abbrev pub NumberedLine : Type 0
NumberedLine = ℕ × ChunkLine

-- lines with their line numbers, which increase by 1; the first line has this one
abbrev pub numbered : ℕ → List ChunkLine → List NumberedLine
numbered first [] = []
numbered first (line ∷ lines) = (first, line) ∷ numbered (first + 1) lines

-- the lines of a chunk with their line numbers
abbrev pub lines_of_chunk : ChunkValue → List NumberedLine
lines_of_chunk chunk = numbered chunk.first chunk.lines

-- lines of a source as they are in chunks, with their line numbers; the first line has this one
abbrev pub numbered_cuts : ℕ → List (List ℕ) → List NumberedLine
numbered_cuts first lines = numbered first (map cut lines)

-- ---- how a chunk is stored

-- the lines in the contents of a chunk; the flag states that lines may end with CR LF
abbrev pub lines_within : Bool → Contents → List ChunkLine
lines_within crlf (Lines bytes) = map cut (lines_in crlf bytes.items)
lines_within crlf (TooLong count) = too_long count ∷ []
