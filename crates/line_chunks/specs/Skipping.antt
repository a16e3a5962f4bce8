-- A line that is too long to be set: its bytes are read and not kept.
-- This project's own.
use Rattle.std.specs.Prelude.{◌≡◌, ◌<◌, ℕ, Bool, List, [], ◌∷◌, ◌++◌, length, Option}
use Rattle.std.specs.Io.KnownBytes.{Consumes}
use Rattle.set_line.specs.Lines.{HasNoFeed}
use Rattle.set_line.specs.Returns.{before_feed, ends_with_return}
use Rattle.line_chunks.specs.Pending.{AreAll}
use Rattle.line_chunks.specs.declared.long_line.LongLine.{LongLine}
use Rattle.line_chunks.specs.declared.input.Skipped.{Skipped}
use Rattle.line_chunks.specs.declared.input.Skipped.TheVariants.{ToFeed, ToEnd}

-- this is known of the line of these bytes
abbrev pub IsLong : LongLine → List ℕ → Type 0
IsLong long line = (long.length ≡ length line) × (long.ends_with_return ≡ ends_with_return line)

-- the length of a line that was before a line feed; the flag states that lines may end with CR LF
abbrev pub long_length : Bool → List ℕ → ℕ
long_length crlf line = length (before_feed crlf line)

-- a line of more than 65,536 bytes was taken from the bytes to come, if these are known: up to a line feed, which is
-- taken too, or up to the end
abbrev pub TakesLong : Option (List ℕ) → Skipped → Option (List ℕ) → Type 0
TakesLong before (ToFeed long) after =
    (line : List ℕ) × HasNoFeed line × (65536 < length line) × IsLong long line × Consumes before after (line ++ 10 ∷ [])
TakesLong before (ToEnd long) after =
    (line : List ℕ) × HasNoFeed line × (65536 < length line) × IsLong long line × AreAll before line
