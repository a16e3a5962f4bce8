-- How a line is cut: at each space, and at each byte that is no character of the font. If such bytes are
-- refused, a line with one is refused before it is set (defined in Answer).
-- This project's own.
use Rattle.std.specs.Prelude.{⊤, ◌≡◌, ℕ, ◌==◌, ◌<◌, ◌&&◌, ◌||◌, not, Bool, true, false, List, [], ◌∷◌, ◌++◌, filter, flat_map, length, if◌then◌else◌}
use Rattle.std.specs.List.{All, slice_split}
use Rattle.tfm_tables.specs.Font.{FontValue}
use Rattle.tfm_tables.specs.Character.{exists}

-- a portion of a line: a run, and whether the right boundary may follow it; a space; or a byte that is no
-- character and is skipped
pub data Portion : Type 0 where
  run : List ℕ → Bool → Portion
  space : Portion
  skipped : ℕ → Portion

-- byte 32 is a space
abbrev pub is_space : ℕ → Bool
is_space byte = byte == 32

-- a byte that is no character of the font
abbrev pub is_missing : FontValue → ℕ → Bool
is_missing font byte = not (exists font.words byte)

-- whether a byte is neither a space nor a character
abbrev pub is_neither : FontValue → ℕ → Bool
is_neither font byte = not (is_space byte) && is_missing font byte

-- whether a line is cut at a byte
abbrev pub is_cut : FontValue → ℕ → Bool
is_cut font byte = is_space byte || is_missing font byte

-- a line is cut at none of these bytes
abbrev pub IsRun : FontValue → List ℕ → Type 0
IsRun font codes = All (λ byte. is_cut font byte ≡ false) codes

-- the portion of a byte at which a line is cut
abbrev pub portion_of : ℕ → Portion
portion_of byte = if is_space byte then space else skipped byte

-- the portion of a run; an empty run has none
abbrev pub run_of : List ℕ → Bool → List Portion
run_of [] right = []
run_of (code ∷ codes) right = run (code ∷ codes) right ∷ []

-- pieces with the bytes at which they are cut, of which there is one less: the right boundary may follow a
-- piece before a space, and also the last piece if `right` says so
abbrev pub cut_with : Bool → List (List ℕ) → List ℕ → List Portion
cut_with right [] cuts = []
cut_with right (piece ∷ pieces) [] = run_of piece right
cut_with right (piece ∷ pieces) (cut ∷ cuts) = run_of piece (is_space cut) ++ portion_of cut ∷ cut_with right pieces cuts

-- the pieces of a line: what is between the bytes at which it is cut
unfoldable pub pieces_of : FontValue → List ℕ → List (List ℕ)
pieces_of font line = slice_split (is_cut font) line

-- the portions of a stretch of a line, in order; `right` says whether the right boundary may follow its last
-- run
unfoldable pub portions_in : Bool → FontValue → List ℕ → List Portion
portions_in right font codes = cut_with right (pieces_of font codes) (filter (is_cut font) codes)

-- the portions of a line, in order
abbrev pub portions_of : FontValue → List ℕ → List Portion
portions_of font line = portions_in true font line

-- ---- laws of the cutting

-- the bytes of a portion: those of a run, byte 32 for a space, and the byte that is skipped
abbrev pub bytes_of : Portion → List ℕ
bytes_of (run codes right) = codes
bytes_of space = 32 ∷ []
bytes_of (skipped code) = code ∷ []

-- the bytes of all portions in order are the line: no byte is lost, swapped or doubled
abbrev pub AreWhole : FontValue → List ℕ → Type 0
AreWhole font line = flat_map bytes_of (portions_of font line) ≡ line

-- what follows a run: the end of the line or a space, if the right boundary may follow the run, or a skipped
-- byte, if it may not; and never a run
abbrev pub AreAfterRun : Bool → List Portion → Type 0
AreAfterRun right [] = right ≡ true
AreAfterRun right (run codes also ∷ portions) = ⊥
AreAfterRun right (space ∷ portions) = right ≡ true
AreAfterRun right (skipped code ∷ portions) = right ≡ false

-- portions that can't be cut further: each run has at least one byte and none at which a line is cut, and
-- ends where the right boundary says; a skipped byte is neither a space nor a character
abbrev pub AreUncut : FontValue → List Portion → Type 0
AreUncut font [] = ⊤
AreUncut font (run codes right ∷ portions) =
    (0 < length codes) × IsRun font codes × AreAfterRun right portions × AreUncut font portions
AreUncut font (space ∷ portions) = AreUncut font portions
AreUncut font (skipped code ∷ portions) = (is_neither font code ≡ true) × AreUncut font portions

-- no other list of portions has these bytes and can't be cut further
abbrev pub AreTheOnly : FontValue → List ℕ → Type 0
AreTheOnly font line = (portions : List Portion) → flat_map bytes_of portions ≡ line → AreUncut font portions → portions ≡ portions_of font line
