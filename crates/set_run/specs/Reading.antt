-- Lines from a reader: the lines still to come, and how each step of reading changes the bytes still to come.
-- This project's own.
use Rattle.std.specs.Prelude.{◌≡◌, ℕ, Bool, true, false, List, [], ◌∷◌, ◌++◌, Option, Some, None, IfSome}
use Rattle.std.specs.Option.{option_map}
use Rattle.std.specs.Io.KnownBytes.{Consumes}
use Rattle.lanes.specs.declared.fault.SourceFault.{SourceFault}
use Rattle.set_line.specs.Lines.{lines_of, HasNoFeed}
use Rattle.set_run.specs.declared.sources.reader_source.raw_line.RawLine.{RawLine}
use Rattle.set_run.specs.declared.sources.reader_source.raw_line.RawLine.TheVariants.{Ended, Last}
use Rattle.set_run.specs.declared.sources.reader_source.state.ReaderState.{ReaderState}
use Rattle.set_run.specs.declared.sources.reader_source.state.ReaderState.TheVariants.{Open, AtEnd, Failed}

-- the lines still to come: those of the bytes still to come, if these are known; none after the end; after an
-- error they aren't known
abbrev pub lines_to_come : ReaderState → Option (List ℕ) → Option (List (List ℕ))
lines_to_come Open bytes = option_map lines_of bytes
lines_to_come AtEnd bytes = Some []
lines_to_come (Failed fault) bytes = None

-- the error of a reader that has failed
abbrev pub fault_of : ReaderState → Option SourceFault
fault_of Open = None
fault_of AtEnd = None
fault_of (Failed fault) = Some fault

-- bytes of the buffer were moved to the end of a line: those before the first line feed, which is dropped, or
-- all if there is no line feed. Parameters: the bytes and the line before, whether there was a line feed, the
-- line and the bytes after
abbrev pub MovesLine : List ℕ → List ℕ → Bool → List ℕ → List ℕ → Type 0
MovesLine bytes line true longer rest = (part : List ℕ) × HasNoFeed part × (bytes ≡ part ++ 10 ∷ rest) × (longer ≡ line ++ part)
MovesLine bytes line false longer rest = HasNoFeed bytes × (rest ≡ []) × (longer ≡ line ++ bytes)

-- a raw line was taken from the bytes to come, if these are known: those before the first line feed, which is
-- taken too, or all of them if there is no line feed
abbrev pub TakesRawLine : Option (List ℕ) → RawLine → Option (List ℕ) → Type 0
TakesRawLine before (Ended line) after = HasNoFeed line.items × Consumes before after (line.items ++ 10 ∷ [])
TakesRawLine before (Last line) after = HasNoFeed line.items × IfSome before (λ bytes. bytes ≡ line.items)
