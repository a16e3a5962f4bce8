-- The font that a call reads, at the size that C passes.
-- This project's own; which fonts are accepted is defined in Acceptance of `tfm_tables`.
use Rattle.std.specs.Prelude.{◌≡◌, ℕ, ◌<◌, ◌≤◌, ◌==◌, ◌⊎◌, ◌↔◌, List, Option, Some, None, Result, Ok, Err, if◌then◌else◌}
use Rattle.tfm_words.specs.declared.design.DesignFault.{DesignFault}
use Rattle.tfm_words.specs.DesignSize.{design_size_of}
use Rattle.tfm_tables.specs.Acceptance.{font_fault_of, words_of}
use Rattle.tfm_tables.specs.Font.{FontValue}
use Rattle.tfmset_c.specs.declared.reading.Denial.{Denial}
use Rattle.tfmset_c.specs.declared.reading.Denial.TheVariants.{Memory, Refused}

-- the size that a number requests; 0 requests the design size
unfoldable pub asked_size : ℕ → Option ℕ
asked_size size = if size == 0 then None else Some size

-- the design size as a number, or 0 if it has an error; that of an accepted font has none
abbrev pub size_or_zero : Result ℕ DesignFault → ℕ
size_or_zero (Ok size) = size
size_or_zero (Err _) = 0

-- the size at which the font in these words is read
unfoldable pub size_used : List ℕ → ℕ → ℕ
size_used words size = if size == 0 then size_or_zero (design_size_of words) else size

-- the font in these bytes, read at this size, or at its design size for 0
abbrev pub font_at : List ℕ → ℕ → FontValue
font_at bytes size = record { words = words_of bytes; size = size_used (words_of bytes) size }

-- a number that is larger than the largest size
abbrev pub IsNoSize : ℕ → Type 0
IsNoSize size = 134217727 < size

-- the font in these bytes is accepted, and was read at this size
pub record IsOpened (bytes : List ℕ) (size : ℕ) (font : FontValue) : Type 0 where
  pub accepted : font_fault_of bytes ≡ None
  pub value : font ≡ font_at bytes size

-- the reason why no font was read: its first error, or, if it has none, that an allocation failed
abbrev pub IsDenial : List ℕ → Denial → Type 0
IsDenial bytes Memory = font_fault_of bytes ≡ None
IsDenial bytes (Refused fault) = font_fault_of bytes ≡ Some fault

-- the code for the reason why no font was read
abbrev pub denial_number : Denial → ℕ
denial_number Memory = 2
denial_number (Refused _) = 1

-- the code that a call returns: 4 exactly if an argument is out of range, 1 only if the bytes aren't a font, and
-- 0, 2 and 3, the only others, only if they are one
pub record IsAnswerFor (OutOfRange IsFont : Type 0) (answer : ℕ) : Type 0 where
  pub code : answer ≤ 4
  pub range : (answer ≡ 4) ↔ OutOfRange
  pub refused : answer ≡ 1 → IsFont → ⊥
  pub accepted : (answer ≡ 0) ⊎ ((answer ≡ 2) ⊎ (answer ≡ 3)) → IsFont

-- the code of a call that reads a TFM file
abbrev pub IsAnswer : Type 0 → List ℕ → ℕ → Type 0
IsAnswer OutOfRange font = IsAnswerFor OutOfRange (font_fault_of font ≡ None)
