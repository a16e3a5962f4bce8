-- The lines of a text: the bytes between its line feeds.
-- This project's own.
use Rattle.std.specs.Prelude.{◌≡◌, ◌≢◌, ℕ, ◌<◌, ◌==◌, List, [], ◌∷◌, ◌++◌, flat_map, length}
use Rattle.std.specs.List.{All, slice_split}

-- the bytes after the last line feed are a line unless there are none
abbrev pub without_empty_last : List (List ℕ) → List (List ℕ)
without_empty_last [] = []
without_empty_last ([] ∷ []) = []
without_empty_last (line ∷ lines) = line ∷ without_empty_last lines

-- the lines of a text, without their line feeds
unfoldable pub lines_of : List ℕ → List (List ℕ)
lines_of bytes = without_empty_last (slice_split (λ byte. byte == 10) bytes)

-- ---- laws of the cutting

-- none of these bytes is a line feed
abbrev pub HasNoFeed : List ℕ → Type 0
HasNoFeed bytes = All (λ byte. byte ≢ 10) bytes

-- the first line is before the first line feed, and the other lines are those of the text after it
abbrev pub IsCutAtFeed : List ℕ → List ℕ → Type 0
IsCutAtFeed line rest = HasNoFeed line → lines_of (line ++ 10 ∷ rest) ≡ line ∷ lines_of rest

-- bytes without a line feed are one line, unless there are none
abbrev pub IsOneLine : List ℕ → Type 0
IsOneLine line = HasNoFeed line → 0 < length line → lines_of line ≡ line ∷ []

-- lines joined together, with a line feed after each
abbrev pub with_feeds : List (List ℕ) → List ℕ
with_feeds lines = flat_map (λ line. line ++ 10 ∷ []) lines

-- the lines of a text that ends with a line feed, joined together, are the text
abbrev pub AreWholeText : List ℕ → Type 0
AreWholeText text = with_feeds (lines_of (text ++ 10 ∷ [])) ≡ text ++ 10 ∷ []

-- the lines of a text that ends with another byte, joined together, are the text and a line feed
abbrev pub AreWholeWithFeed : List ℕ → ℕ → Type 0
AreWholeWithFeed text last = last ≢ 10 → with_feeds (lines_of (text ++ last ∷ [])) ≡ text ++ last ∷ 10 ∷ []
