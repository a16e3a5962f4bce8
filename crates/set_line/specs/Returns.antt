-- The lines of a text whose lines end with CR LF, read as if they ended with LF: one carriage return (13) before
-- each line feed (10) is left out.
-- This project's own. RFC 5234, appendix B.1, defines CRLF.
use Rattle.std.specs.Prelude.{ℕ, ◌-◌, Bool, true, false, ◌==◌, ◌&&◌, List, [], ◌∷◌, cond, get_or, length, take}
use Rattle.set_line.specs.Lines.{lines_of}

-- the first of these bytes is a line feed
abbrev pub begins_with_feed : List ℕ → Bool
begins_with_feed [] = false
begins_with_feed (byte ∷ bytes) = byte == 10

-- these bytes without each carriage return that is directly before a line feed
unfoldable pub without_returns : List ℕ → List ℕ
without_returns [] = []
without_returns (byte ∷ bytes) = cond ((byte == 13) && begins_with_feed bytes) (without_returns bytes) (byte ∷ without_returns bytes)

-- the text in these bytes: without the carriage returns before line feeds if the flag is set
abbrev pub text_of : Bool → List ℕ → List ℕ
text_of true bytes = without_returns bytes
text_of false bytes = bytes

-- the lines in these bytes: those of their text
abbrev pub lines_in : Bool → List ℕ → List (List ℕ)
lines_in crlf bytes = lines_of (text_of crlf bytes)

-- whether the last byte is a carriage return
abbrev pub ends_with_return : List ℕ → Bool
ends_with_return bytes = get_or bytes (length bytes - 1) 0 == 13

-- a line that was before a line feed: without the carriage return at its end, if it has one and lines may end with
-- CR LF
abbrev pub before_feed : Bool → List ℕ → List ℕ
before_feed crlf line = cond (crlf && ends_with_return line) (take (length line - 1) line) line
