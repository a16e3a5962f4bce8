-- The known contents of a source of lines.
-- This project's own.
use Rattle.std.specs.Prelude.{◌≡◌, ℕ, Bool, List, Option, Some, None, IfSome}
use Rattle.line_chunks.specs.Reading.{Told, told_unread}
use Rattle.set_line.specs.Returns.{lines_in}

-- a source that isn't read yet: if these bytes are known, all of their lines are still to come; it has met no
-- read error. The flag states that lines may end with CR LF
abbrev pub IsSourceOf : Bool → Option (List ℕ) → Told → Type 0
IsSourceOf crlf bytes source = IfSome bytes (λ all. source.lines ≡ Some (lines_in crlf all)) × (source.fault ≡ None)

module _ {R : Type 0} where
  -- what is known of a reader that isn't read yet
  abbrev pub told_reader : (R → Option (List ℕ)) → Bool → R → Told
  told_reader remaining crlf reader = told_unread crlf (remaining reader)
