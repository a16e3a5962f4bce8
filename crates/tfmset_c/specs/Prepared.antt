-- The table of a prepared font as C gets it, and a font that C passes: a TFM file or such a table.
-- This project's own; the table is defined in Layout of `prepared_font`.
use Rattle.std.specs.Prelude.{◌≡◌, ◌≢◌, ℕ, ◌≤◌, ◌⊎◌, List, None, take, drop, length}
use Rattle.tfm_tables.specs.Acceptance.{font_fault_of}
use Rattle.tfm_tables.specs.Font.{FontValue}
use Rattle.prepared_font.specs.Layout.{IsPreparedFrom, IsWhole, size_in, table_length}
use Rattle.tfmset_c.specs.Arrays.{HasEffect}
use Rattle.tfmset_c.specs.Reading.{IsAnswerFor, font_at}

-- an array has the table of a font in this many bytes at its front, and its former contents after them
abbrev pub IsTableIn : FontValue → ℕ → List ℕ → List ℕ → Type 0
IsTableIn font count before array =
    IsPreparedFrom font (take count array) × (drop count array ≡ drop count before)

-- the effect of a call that writes the table of a font; the count is the length of the table
abbrev pub IsTableTold : FontValue → ℕ → ℕ → ℕ → List ℕ → List ℕ → Type 0
IsTableTold font answer count_before count before array =
    HasEffect (table_length font.words ≤ length before) (IsTableIn font count before array) (array ≡ before)
    (table_length font.words) answer count_before count

-- a font that C passes: an accepted TFM file, or bytes with the header of a table
abbrev pub IsFont : List ℕ → Type 0
IsFont bytes = (font_fault_of bytes ≡ None) ⊎ IsWhole bytes

-- these bytes have the header of a table, and a size is requested that isn't the one in the header
abbrev pub IsOtherSize : ℕ → List ℕ → Type 0
IsOtherSize size bytes = IsWhole bytes × ((size ≢ 0) × (size ≢ size_in bytes))

-- the font of these bytes: that of an accepted TFM file, read at this size, or that of a table
abbrev pub IsGiven : List ℕ → ℕ → FontValue → Type 0
IsGiven bytes size font =
    ((font_fault_of bytes ≡ None) × (font ≡ font_at bytes size)) ⊎ IsPreparedFrom font bytes

-- a table that was opened for these bytes: that of their font
abbrev pub IsOpenFor : ℕ → List ℕ → List ℕ → Type 0
IsOpenFor size bytes table =
    IsFont bytes × ((IsOtherSize size bytes → ⊥)
    × ((font : FontValue) → IsGiven bytes size font → IsPreparedFrom font table))

-- the code of a call that opens no font
abbrev pub IsNoFont : ℕ → List ℕ → ℕ → Type 0
IsNoFont size bytes answer =
    IsAnswerFor (IsOtherSize size bytes) (IsFont bytes) answer
    × ((answer ≡ 1) ⊎ ((answer ≡ 2) ⊎ (answer ≡ 4)))
