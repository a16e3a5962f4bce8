-- The bytes that were read and aren't in a chunk yet: whole lines, and the beginning of the next line.
-- This project's own.
use Rattle.std.specs.Prelude.{◌≡◌, ℕ, ◌-◌, ◌==◌, List, [], ◌++◌, count_by, get_or, length, Option, Some, None}

-- pending bytes: whole lines, and then the beginning of a line
pub record PendingValue : Type 0 where
  pub lines : List ℕ
  pub rest : List ℕ

-- all pending bytes
abbrev pub bytes_of : PendingValue → List ℕ
bytes_of pending = pending.lines ++ pending.rest

-- no byte is pending
abbrev pub nothing : PendingValue
nothing = record { lines = []; rest = [] }

-- the last byte, if there is one, is a line feed
abbrev pub EndsWithFeed : List ℕ → Type 0
EndsWithFeed bytes = get_or bytes (length bytes - 1) 10 ≡ 10

-- the number of line feeds
abbrev pub feeds_in : List ℕ → ℕ
feeds_in bytes = count_by (λ byte. byte == 10) bytes

-- known bytes to come, which weren't known to be more, are all of this line
abbrev pub AreAll : Option (List ℕ) → List ℕ → Type 0
AreAll None line = Unit {0}
AreAll (Some bytes) line = bytes ≡ line
