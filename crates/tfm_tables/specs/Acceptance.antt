-- The rules for accepting a font, as a list of conditions in order: the first condition that holds gives
-- the font error.
-- The sentence above a list states the rule, and the rows of the list are the violations of it.
-- Public source: tex.web, sections 565 to 575; the order, and the rule for entry 0 of tables, are this
-- project's own. The characters of charlists, the extensible recipes, and the characters to which recipes
-- refer aren't checked, which is this project's own choice; TeX checks them.
use Rattle.std.specs.Prelude.{ℕ, ◌+◌, ◌-◌, ◌*◌, ◌==◌, ◌&&◌, ◌||◌, nat_lt, nat_le, not, Bool, false, List, [], ◌∷◌, ◌++◌, take, slice_index, Option, Some, None, if◌then◌else◌, Result, Ok, Err}
use Rattle.std.specs.List.{range_with_len, flat_map}
use Rattle.std.specs.Option.{option_map_or}
use Rattle.tfm_words.specs.declared.table.Table.{Table}
use Rattle.tfm_words.specs.declared.table.Table.TheVariants.{CharInfo, Width, Height, Depth, Italic, LigKern, Kern as KernTable, Param}
use Rattle.tfm_words.specs.declared.count_fault.CountFault.{CountFault}
use Rattle.tfm_words.specs.declared.design.DesignFault.{DesignFault}
use Rattle.tfm_words.specs.Counts.{counts_of}
use Rattle.tfm_words.specs.CountFaults.{first_fault, count_fault_of}
use Rattle.tfm_words.specs.DesignSize.{design_size_of}
use Rattle.tfm_tables.specs.declared.step.Step.{Step as Instruction}
use Rattle.tfm_tables.specs.declared.fault.FontFault.{FontFault}
use Rattle.tfm_tables.specs.declared.fault.FontFault.TheVariants.{Counts, Design, CharIndex, LigStart, FirstNotZero, FixWordRange, Step}
use Rattle.tfm_tables.specs.declared.fault.Part.TheVariants.{Restart, Next, Ligature, Kern, Skip}
use Rattle.tfm_tables.specs.Table.{entries_of, entry_at}
use Rattle.tfm_tables.specs.Character.{exists, char_info_of, width_index, height_index, depth_index, italic_index, tag_number, remainder_of}
use Rattle.tfm_tables.specs.Program.{program_of, step_at, target_of, right_code_of}

-- the words of a font: the first 4 * lf bytes of its file
abbrev pub words_of : List ℕ → List ℕ
words_of bytes = take (4 * (counts_of bytes).lf) bytes

-- the codes from bc to ec, which have a char_info word, whether or not the characters exist
unfoldable pub codes_of : List ℕ → List ℕ
codes_of words = range_with_len (counts_of words).bc (entries_of words CharInfo)

-- each of the four indices in the char_info word of a code is below the number of entries of its table
unfoldable pub index_faults : List ℕ → ℕ → List (Bool × FontFault)
index_faults words code =
    (nat_le (entries_of words Width) (width_index (char_info_of words code)), CharIndex code Width)
    ∷ (nat_le (entries_of words Height) (height_index (char_info_of words code)), CharIndex code Height)
    ∷ (nat_le (entries_of words Depth) (depth_index (char_info_of words code)), CharIndex code Depth)
    ∷ (nat_le (entries_of words Italic) (italic_index (char_info_of words code)), CharIndex code Italic)
    ∷ []

-- if the tag number of a code is 1, its remainder is the address of an instruction
unfoldable pub start_faults : List ℕ → ℕ → List (Bool × FontFault)
start_faults words code =
    ((tag_number (char_info_of words code) == 1) && nat_le (entries_of words LigKern) (remainder_of (char_info_of words code)), LigStart code) ∷ []

-- whether the four bytes of a word are zero
unfoldable pub is_zero : List ℕ → Bool
is_zero word = (slice_index word 0 == 0) && (slice_index word 1 == 0) && (slice_index word 2 == 0) && (slice_index word 3 == 0)

-- entry 0 of each of the four tables that characters index has four zero bytes, whatever its scaled value
-- would be
unfoldable pub first_entry_faults : List ℕ → List (Bool × FontFault)
first_entry_faults words =
    (not (is_zero (entry_at words Width 0)), FirstNotZero Width)
    ∷ (not (is_zero (entry_at words Height 0)), FirstNotZero Height)
    ∷ (not (is_zero (entry_at words Depth 0)), FirstNotZero Depth)
    ∷ (not (is_zero (entry_at words Italic 0)), FirstNotZero Italic)
    ∷ []

-- whether a word is a valid dimension: its first byte is 0 or 255, and as a fix_word it is at least -16 and
-- below 16
unfoldable pub is_measure : List ℕ → Bool
is_measure word = (slice_index word 0 == 0) || (slice_index word 0 == 255)

-- entry i of a table, counted from 0, is a valid dimension
unfoldable pub measure_faults : List ℕ → Table → ℕ → List (Bool × FontFault)
measure_faults words table i = (not (is_measure (entry_at words table i)), FixWordRange table i) ∷ []

-- parameter n, for n of 2 or more, is a valid dimension; it is entry n - 1 of its table. Parameter 1, the
-- slant, isn't checked
unfoldable pub parameter_faults : List ℕ → ℕ → List (Bool × FontFault)
parameter_faults words n = (not (is_measure (entry_at words Param (n - 1))), FixWordRange Param n) ∷ []

-- every entry of a table is a valid dimension
unfoldable pub table_measure_faults : List ℕ → Table → List (Bool × FontFault)
table_measure_faults words table = flat_map (measure_faults words table) (range_with_len 0 (entries_of words table))

-- every entry of the four tables that characters index, every kern, and every parameter from number 2
-- upward is a valid dimension
unfoldable pub all_measure_faults : List ℕ → List (Bool × FontFault)
all_measure_faults words =
    table_measure_faults words Width
    ++ table_measure_faults words Height
    ++ table_measure_faults words Depth
    ++ table_measure_faults words Italic
    ++ table_measure_faults words KernTable
    ++ flat_map (parameter_faults words) (range_with_len 2 (entries_of words Param - 1))

-- the index of the kern that an instruction with an op of 128 or more inserts
unfoldable pub kern_index_of : Instruction → ℕ
kern_index_of step = 256 * (step.op - 128) + step.remainder

-- whether a code is that of the right boundary character, which needn't be a character of the font
unfoldable pub is_right_code : List ℕ → ℕ → Bool
is_right_code words code = option_map_or (λ right. right == code) (right_code_of (program_of words)) false

-- an instruction with a skip above 128 points to the address of an instruction
unfoldable pub restart_faults : List ℕ → ℕ → Instruction → List (Bool × FontFault)
restart_faults words i step = (nat_le (entries_of words LigKern) (target_of step), Step i Restart) ∷ []

-- any other instruction is for a code of a character or of the right boundary character, inserts a
-- character or a kern of the font, and, if its skip is below 128, is followed by the instruction at which
-- the search goes on
unfoldable pub plain_faults : List ℕ → ℕ → Instruction → List (Bool × FontFault)
plain_faults words i step =
    (not (exists words step.next || is_right_code words step.next), Step i Next)
    ∷ (nat_lt step.op 128 && not (exists words step.remainder), Step i Ligature)
    ∷ (nat_le 128 step.op && nat_le (entries_of words KernTable) (kern_index_of step), Step i Kern)
    ∷ (nat_lt step.skip 128 && nat_le (entries_of words LigKern) (i + step.skip + 1), Step i Skip)
    ∷ []

-- the rule for an instruction, selected by its skip
abbrev pub step_faults : List ℕ → ℕ → Instruction → List (Bool × FontFault)
step_faults words i step = if nat_lt 128 step.skip then restart_faults words i step else plain_faults words i step

-- the rule for the instruction at address i
unfoldable pub instruction_faults : List ℕ → ℕ → List (Bool × FontFault)
instruction_faults words i = step_faults words i (step_at words i)

-- all rows for the tables of a font, in order
unfoldable pub table_faults : List ℕ → List (Bool × FontFault)
table_faults words =
    flat_map (index_faults words) (codes_of words)
    ++ flat_map (start_faults words) (codes_of words)
    ++ first_entry_faults words
    ++ all_measure_faults words
    ++ flat_map (instruction_faults words) (range_with_len 0 (entries_of words LigKern))

-- the first error in the tables of a font, or none if they have no error
abbrev pub table_fault_of : List ℕ → Option FontFault
table_fault_of words = first_fault (table_faults words)

-- the first font error of words whose counts have no error, given their design size or the error in it,
-- which precedes the errors in the tables
abbrev pub after_design : List ℕ → Result ℕ DesignFault → Option FontFault
after_design words (Err fault) = Some (Design fault)
after_design words (Ok _) = table_fault_of words

-- the first font error of a file, given the first error in its counts, if any, which precedes all others
abbrev pub after_counts : List ℕ → Option CountFault → Option FontFault
after_counts bytes (Some fault) = Some (Counts fault)
after_counts bytes None = after_design (words_of bytes) (design_size_of (words_of bytes))

-- the first font error of a file, or none if the font is accepted
abbrev pub font_fault_of : List ℕ → Option FontFault
font_fault_of bytes = after_counts bytes (count_fault_of bytes)
