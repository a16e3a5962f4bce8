-- The layout of the table of a prepared font: words of four bytes, the highest byte first. A header of nine
-- words, 256 widths, 256 states, the instructions, and the kerns.
-- This project's own; the contents are those of the font (tftopl.web, sections 8 to 13).
use Rattle.std.specs.Prelude.{◌≡◌, ℕ, ◌<◌, ◌≤◌, ◌+◌, ◌*◌, length, ℤ, pos, negsuc, int_lt, nat_abs, List, [], ◌∷◌, Option, IfSome, if◌then◌else◌}
use Rattle.std.specs.Option.{option_map_or}
use Rattle.tfm_words.specs.declared.table.Table.TheVariants.{LigKern, Kern}
use Rattle.tfm_words.specs.Word.{word_at, value_of}
use Rattle.tfm_tables.specs.declared.left_side.LeftSide.TheVariants.{Boundary, Char}
use Rattle.tfm_tables.specs.declared.step.Step.{Step}
use Rattle.tfm_tables.specs.Table.{entries_of}
use Rattle.tfm_tables.specs.Font.{FontValue}
use Rattle.tfm_tables.specs.Character.{exists, character_width_of}
use Rattle.tfm_tables.specs.Program.{start_of, step_at, program_of, right_code_of}
use Rattle.tfm_tables.specs.Measure.{kern_at, parameter_of}
use Rattle.tfm_tables.specs.Acceptance.{kern_index_of}

-- the signed number in word i, counted from 0
unfoldable pub number_at : List ℕ → ℕ → ℤ
number_at bytes i = value_of (word_at bytes i)

-- the number of bytes of the table of a font
abbrev pub table_length : List ℕ → ℕ
table_length words = 4 * (521 + entries_of words LigKern + entries_of words Kern)

-- an address or a code as a number: -1 for none
abbrev pub number_of : Option ℕ → ℤ
number_of found = option_map_or (λ n. pos n) found (negsuc 0)

-- the state of a code: -2 without a character, -1 for a character without a program, and otherwise the
-- starting address of its program
unfoldable pub state_of : List ℕ → ℕ → ℤ
state_of words code = if exists words code then number_of (start_of words (Char code)) else negsuc 1

-- the four bytes of an instruction
abbrev pub bytes_of : Step → List ℕ
bytes_of step = step.skip ∷ step.next ∷ step.op ∷ step.remainder ∷ []

-- the words of the header: the bytes F7, T, F, M as a number; the version; the number of bytes of the table,
-- of instructions and of kerns; the code of the right boundary character, and the start of the left
-- boundary's program, or -1; the width of a space; and the size, in sp
pub record HasHeader (font : FontValue) (bytes : List ℕ) : Type 0 where
  pub magic : number_at bytes 0 ≡ negsuc 145471922
  pub version : number_at bytes 1 ≡ pos 1
  pub total : number_at bytes 2 ≡ pos (table_length font.words)
  pub steps : number_at bytes 3 ≡ pos (entries_of font.words LigKern)
  pub kerns : number_at bytes 4 ≡ pos (entries_of font.words Kern)
  pub right : number_at bytes 5 ≡ number_of (right_code_of (program_of font.words))
  pub left : number_at bytes 6 ≡ number_of (start_of font.words Boundary)
  pub space : number_at bytes 7 ≡ parameter_of font.words font.size 2
  pub size : number_at bytes 8 ≡ pos font.size

-- the widths of the codes from 0 to 255 are in the words from word 9; 0 for a code without a character
abbrev pub HasWidths : FontValue → List ℕ → Type 0
HasWidths font bytes = (code : ℕ) → code < 256 → number_at bytes (9 + code) ≡ character_width_of font.words font.size code

-- the states of the codes from 0 to 255 are in the words from word 265
abbrev pub HasStates : FontValue → List ℕ → Type 0
HasStates font bytes = (code : ℕ) → code < 256 → number_at bytes (265 + code) ≡ state_of font.words code

-- the instructions are in the words from word 521
abbrev pub HasSteps : FontValue → List ℕ → Type 0
HasSteps font bytes = (i : ℕ) → i < entries_of font.words LigKern → word_at bytes (521 + i) ≡ bytes_of (step_at font.words i)

-- the kerns are in the words after the instructions
abbrev pub HasKerns : FontValue → List ℕ → Type 0
HasKerns font bytes = (k : ℕ) → k < entries_of font.words Kern → number_at bytes (521 + entries_of font.words LigKern + k) ≡ kern_at font.words font.size k

-- properties of an accepted font on which the reader depends: the code of the right boundary character is a
-- byte, and an instruction that may match inserts a character or a kern of the font
pub record IsReadable (words : List ℕ) : Type 0 where
  pub right : IfSome (right_code_of (program_of words)) (λ code. code < 256)
  pub kerns : (i : ℕ) → i < entries_of words LigKern → (step_at words i).skip ≤ 128 → 128 ≤ (step_at words i).op
      → kern_index_of (step_at words i) < entries_of words Kern

-- these bytes begin with the table of this font
pub record IsPreparedFrom (font : FontValue) (bytes : List ℕ) : Type 0 where
  pub long : table_length font.words ≤ length bytes
  pub header : HasHeader font bytes
  pub widths : HasWidths font bytes
  pub states : HasStates font bytes
  pub steps : HasSteps font bytes
  pub kerns : HasKerns font bytes
  pub readable : IsReadable font.words

-- these bytes have the header of a table of this version, and are no shorter than the table
pub record IsWhole (bytes : List ℕ) : Type 0 where
  pub steps : ℕ
  pub kerns : ℕ
  pub magic : number_at bytes 0 ≡ negsuc 145471922
  pub version : number_at bytes 1 ≡ pos 1
  pub total : number_at bytes 2 ≡ pos (4 * (521 + steps + kerns))
  pub is_steps : number_at bytes 3 ≡ pos steps
  pub is_kerns : number_at bytes 4 ≡ pos kerns
  pub long : 4 * (521 + steps + kerns) ≤ length bytes

-- the size in the header of a table, in sp, or 0 if the header has a negative number instead
unfoldable pub size_in : List ℕ → ℕ
size_in bytes = if int_lt (number_at bytes 8) (pos 0) then 0 else nat_abs (number_at bytes 8)
