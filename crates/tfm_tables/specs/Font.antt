-- A font in contracts: its words and the size that it was read at; and the results of reading one.
-- This project's own; Acceptance states the rules and the font errors.
use Rattle.std.specs.Prelude.{◌≡◌, ℕ, List, Option, Some, None, Ok}
use Rattle.tfm_words.specs.DesignSize.{design_size_of}
use Rattle.tfm_tables.specs.declared.fault.FontFault.{FontFault}
use Rattle.tfm_tables.specs.declared.fault.FontFault.TheVariants.{OutOfMemory}
use Rattle.tfm_tables.specs.Acceptance.{font_fault_of, words_of}

-- a font: its words, and the size in sp that it was read at
pub record FontValue : Type 0 where
  pub words : List ℕ
  pub size : ℕ

-- a font is read at the given size, or at its design size if no size is given
abbrev pub HasSize : List ℕ → Option ℕ → ℕ → Type 0
HasSize words (Some given) size = size ≡ given
HasSize words None size = design_size_of words ≡ Ok size

-- these bytes are accepted, and this is the font in them at the given size or the design size
pub record IsFontOf (bytes : List ℕ) (given : Option ℕ) (font : FontValue) : Type 0 where
  pub accepted : font_fault_of bytes ≡ None
  pub words : font.words ≡ words_of bytes
  pub size : HasSize font.words given font.size

-- a possible error of reading these bytes: their first font error, or, if they have none, the error that an
-- allocation failed
abbrev pub IsRefusalOf : List ℕ → FontFault → Type 0
IsRefusalOf bytes OutOfMemory = font_fault_of bytes ≡ None
IsRefusalOf bytes fault = font_fault_of bytes ≡ Some fault
