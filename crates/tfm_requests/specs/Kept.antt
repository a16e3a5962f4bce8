-- The bytes of a file that are kept for its font, and the results that they have in common with the whole
-- file.
-- Public source: tftopl.web, section 8: each count is below 2^15, therefore a font has at most 4 * (2^15 - 1)
-- bytes. One byte more shows that a file is longer than the largest font.
use Rattle.std.specs.Prelude.{◌≡◌, ℕ, List, take, Option, None}
use Rattle.font_texts.specs.CountsText.{counts_text_of, head_fault_of}
use Rattle.tfm_tables.specs.Acceptance.{font_fault_of}
use Rattle.tfm_tables.specs.Font.{FontValue, IsFontOf}
use Rattle.check_texts.specs.Warnings.{warnings_of}

-- the first bytes of a file, up to one more than the largest font has
abbrev pub kept_of : List ℕ → List ℕ
kept_of bytes = take 131069 bytes

-- the kept bytes and the whole file have the same first font error, or both have none and the same warnings; the
-- font of the kept bytes is that of the whole file; and the counts and the design size have the same first error
-- and the same text
pub record HaveSameFont (kept whole : List ℕ) : Type 0 where
  pub fault : font_fault_of kept ≡ font_fault_of whole
  pub warnings : font_fault_of whole ≡ None → warnings_of kept ≡ warnings_of whole
  pub font : (size : Option ℕ) (font : FontValue) → IsFontOf kept size font → IsFontOf whole size font
  pub head : head_fault_of kept ≡ head_fault_of whole
  pub counts : counts_text_of kept ≡ counts_text_of whole
