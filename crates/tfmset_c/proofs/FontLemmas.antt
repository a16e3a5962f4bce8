-- A font that C passes is a TFM file or a table, and never both.
use Rattle.std.proofs.Common.{◌≡◌, ◌⊎◌, inl, inr, ℕ, List, None}
use Rattle.tfm_tables.specs.Acceptance.{font_fault_of}
use Rattle.tfm_tables.specs.Font.{FontValue}
use Rattle.tfm_tables.proofs.MeasureLemmas.{AreBytes}
use Rattle.prepared_font.specs.Layout.{IsPreparedFrom, IsWhole}
use Rattle.prepared_font.proofs.FileLemmas.{disjoint}
use Rattle.tfmset_c.specs.Prepared.{IsGiven, IsOpenFor, IsOtherSize}
use Rattle.tfmset_c.specs.Reading.{IsAnswerFor, font_at}

pub table_opens : (bytes : List ℕ) (size : ℕ) → AreBytes bytes → IsWhole bytes → (IsOtherSize size bytes → ⊥) → IsOpenFor size bytes bytes
table_opens bytes size are whole same = (inr whole, (same, λ font given. by font given))
  where
    by : (font : FontValue) → IsGiven bytes size font → IsPreparedFrom font bytes
    by font (inl file) = absurd (disjoint bytes are file.0 whole.magic)
    by font (inr is) = is

pub file_opens : (bytes table : List ℕ) (size : ℕ) → (IsWhole bytes → ⊥) → ((font : FontValue) → IsPreparedFrom font bytes → ⊥) → font_fault_of bytes ≡ None
    → IsPreparedFrom (font_at bytes size) table → IsOpenFor size bytes table
file_opens bytes table size no_header no_table accepted is = (inl accepted, (λ other. no_header other.0, λ font given. by font given))
  where
    by : (font : FontValue) → IsGiven bytes size font → IsPreparedFrom font table
    by font (inl file) = rw file.1 is
    by font (inr prepared) = absurd (no_table font prepared)

-- the code of a call whose other arguments are in range
pub declined : {OutOfRange OtherSize IsFont : Type 0} {answer : ℕ} → (OutOfRange → ⊥) → IsAnswerFor OtherSize IsFont answer
    → IsAnswerFor (OutOfRange ⊎ OtherSize) IsFont answer
declined {OutOfRange} {OtherSize} within is =
    record { code = is.code; range = (λ four. inr (is.range.0 four), λ out. is.range.1 (by out)); refused = is.refused; accepted = is.accepted }
  where
    by : OutOfRange ⊎ OtherSize → OtherSize
    by (inl out) = absurd (within out)
    by (inr other) = other
