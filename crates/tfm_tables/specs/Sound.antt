-- Properties of the tables of an accepted font, for each code, instruction and dimension: each index,
-- starting address, kern index and skip refers to an existing entry, each character that a ligature inserts
-- exists, and each dimension can be scaled.
-- Public source: tex.web, sections 569 and 571 to 573.
use Rattle.std.specs.Prelude.{◌≡◌, ℕ, ◌+◌, ◌-◌, ◌<◌, ◌≤◌, ◌||◌, true, List}
use Rattle.tfm_words.specs.declared.table.Table.{Table}
use Rattle.tfm_words.specs.declared.table.Table.TheVariants.{Width, Height, Depth, Italic, LigKern, Kern, Param}
use Rattle.tfm_words.specs.Word.{value_of}
use Rattle.tfm_words.specs.Scaling.{is_scalable}
use Rattle.tfm_tables.specs.declared.step.Step.{Step}
use Rattle.tfm_tables.specs.Table.{entries_of, entry_at}
use Rattle.tfm_tables.specs.Character.{exists, is_coded, char_info_of, width_index, height_index, depth_index, italic_index, tag_number, remainder_of}
use Rattle.tfm_tables.specs.Program.{step_at, target_of}
use Rattle.tfm_tables.specs.Acceptance.{is_right_code, kern_index_of}

-- the four indices in the char_info word of a code are below the numbers of entries of their tables
pub record HasSoundIndices (words : List ℕ) (code : ℕ) : Type 0 where
  pub width : width_index (char_info_of words code) < entries_of words Width
  pub height : height_index (char_info_of words code) < entries_of words Height
  pub depth : depth_index (char_info_of words code) < entries_of words Depth
  pub italic : italic_index (char_info_of words code) < entries_of words Italic

-- an instruction with a skip above 128 points to an instruction; any other inserts a character or a kern of
-- the font, is followed by an instruction if its skip is below 128, and is for a code on the right that is
-- that of a character of the font or of the right boundary character, which needn't be a character of the
-- font
pub record IsSoundStep (words : List ℕ) (i : ℕ) (step : Step) : Type 0 where
  pub restart : 128 < step.skip → target_of step < entries_of words LigKern
  pub next : step.skip ≤ 128 → (exists words step.next || is_right_code words step.next) ≡ true
  pub ligature : step.skip ≤ 128 → step.op < 128 → exists words step.remainder ≡ true
  pub kern : step.skip ≤ 128 → 128 ≤ step.op → kern_index_of step < entries_of words Kern
  pub following : step.skip < 128 → i + step.skip + 1 < entries_of words LigKern

-- entry i of a table can be scaled, at every size
abbrev pub IsScalableEntry : List ℕ → Table → ℕ → Type 0
IsScalableEntry words table i = is_scalable (value_of (entry_at words table i)) ≡ true

-- every entry of the four tables that characters index, every kern, and every parameter from number 2
-- upward can be scaled
pub record HasScalableMeasures (words : List ℕ) : Type 0 where
  pub widths : (i : ℕ) → i < entries_of words Width → IsScalableEntry words Width i
  pub heights : (i : ℕ) → i < entries_of words Height → IsScalableEntry words Height i
  pub depths : (i : ℕ) → i < entries_of words Depth → IsScalableEntry words Depth i
  pub italics : (i : ℕ) → i < entries_of words Italic → IsScalableEntry words Italic i
  pub kerns : (k : ℕ) → k < entries_of words Kern → IsScalableEntry words Kern k
  pub parameters : (n : ℕ) → 2 ≤ n → n ≤ entries_of words Param → IsScalableEntry words Param (n - 1)

-- the tables are sound: for every code that has a char_info word its indices and the address in its tag,
-- every dimension, and every instruction
pub record HasSoundTables (words : List ℕ) : Type 0 where
  pub indices : (code : ℕ) → is_coded words code ≡ true → HasSoundIndices words code
  pub starts : (code : ℕ) → is_coded words code ≡ true → tag_number (char_info_of words code) ≡ 1 → remainder_of (char_info_of words code) < entries_of words LigKern
  pub measures : HasScalableMeasures words
  pub steps : (i : ℕ) → i < entries_of words LigKern → IsSoundStep words i (step_at words i)
