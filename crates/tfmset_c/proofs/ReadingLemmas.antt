-- A font that was read is the one that is defined.
use Rattle.std.proofs.Common.{◌≡◌, ℕ, Bool, true, false, ◌==◌, if◌then◌else◌, List, Option, Some, None, ap, sym, refl}
use Rattle.tfm_words.specs.DesignSize.{design_size_of}
use Rattle.tfm_tables.specs.Font.{FontValue, HasSize, IsFontOf}
use Rattle.tfmset_c.specs.Reading.{IsOpened, asked_size, size_or_zero, size_used}

-- the size of a reading, by what was asked for
read_at : (words : List ℕ) (size read : ℕ) (given : Option ℕ) → given ≡ asked_size size → HasSize words given read → read ≡ size_used words size
unfolding asked_size size_used
read_at words size read given asked has = by (size == 0) asked
  where
    by : (b : Bool) → given ≡ (if b then None else Some size) → read ≡ (if b then size_or_zero (design_size_of words) else size)
    by true none = sym (ap size_or_zero (rw none at has))
    by false some = rw some at has

pub opened : (bytes : List ℕ) (size : ℕ) (given : Option ℕ) (font : FontValue) → given ≡ asked_size size → IsFontOf bytes given font → IsOpened bytes size font
opened bytes size given font asked is = record {
  accepted = is.accepted;
  value = rw (← is.words, ← read_at font.words size font.size given asked is.size) refl;
}
