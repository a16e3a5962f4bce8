-- Every error in the rows for a font is an error of the file: none is the error that an allocation failed.
use Rattle.std.proofs.Common.{◌≡◌, ◌≢◌, ◌-◌, ℕ, Bool, true, false, List, [], ◌∷◌, ◌++◌, flat_map, Some, None, Ok, arith, refl, if◌then◌else◌, ap, sym, ◌∙◌}
use Rattle.std.specs.List.{range_with_len}
use Rattle.tfm_words.specs.declared.table.Table.{Table}
use Rattle.tfm_words.specs.declared.table.Table.TheVariants.{Width, Height, Depth, Italic, LigKern, Kern as KernTable, Param}
use Rattle.tfm_words.specs.CountFaults.{count_fault_of, first_fault}
use Rattle.tfm_words.specs.DesignSize.{design_size_of}
use Rattle.tfm_tables.specs.declared.fault.FontFault.{FontFault}
use Rattle.tfm_tables.specs.declared.fault.FontFault.TheVariants.{Counts, Design, CharIndex, LigStart, FirstNotZero, FixWordRange, Step, OutOfMemory}
use Rattle.tfm_tables.specs.declared.step.Step.{Step as Instruction}
use Rattle.tfm_tables.specs.Table.{entries_of}
use Rattle.tfm_tables.specs.Program.{step_at}
use Rattle.tfm_tables.specs.Acceptance.{after_counts, after_design, all_measure_faults, codes_of, first_entry_faults, font_fault_of, index_faults, instruction_faults, measure_faults, parameter_faults, plain_faults, restart_faults, start_faults, table_fault_of, table_faults, table_measure_faults, words_of}
use Rattle.tfm_tables.specs.Font.{IsRefusalOf}

-- the first error of these rows isn't the error that an allocation failed
AreNamed : List (Bool × FontFault) → Type 0
AreNamed rows = (fault : FontFault) → first_fault rows ≡ Some fault → fault ≢ OutOfMemory

no_row : AreNamed []
unfolding AreNamed
no_row = λ fault found. absurd (grind (arith, found))

one_row : (holds : Bool) (named : FontFault) (rows : List (Bool × FontFault)) → named ≢ OutOfMemory → AreNamed rows → AreNamed ((holds, named) ∷ rows)
unfolding AreNamed
one_row true named rows other more = λ fault found is. other (grind (arith, found, is))
one_row false named rows other more = λ fault found. more fault found

both : (xs ys : List (Bool × FontFault)) → AreNamed xs → AreNamed ys → AreNamed (xs ++ ys)
unfolding AreNamed
both [] ys front rest = rest
both ((true, named) ∷ xs) ys front rest = λ fault found. front fault found
both ((false, named) ∷ xs) ys front rest = both xs ys front rest

every : (rows : ℕ → List (Bool × FontFault)) → ((k : ℕ) → AreNamed (rows k)) → (ks : List ℕ) → AreNamed (flat_map rows ks)
every rows each [] = no_row
every rows each (k ∷ ks) = both (rows k) (flat_map rows ks) (each k) (every rows each ks)

measures : (words : List ℕ) (table : Table) → AreNamed (table_measure_faults words table)
unfolding table_measure_faults measure_faults
measures words table = every (measure_faults words table) (λ k. one_row _ (FixWordRange table k) [] (grind arith) no_row) (range_with_len 0 (entries_of words table))

indices : (words : List ℕ) (code : ℕ) → AreNamed (index_faults words code)
unfolding index_faults
indices words code =
    one_row _ (CharIndex code Width) _ (grind arith) (one_row _ (CharIndex code Height) _ (grind arith)
    (one_row _ (CharIndex code Depth) _ (grind arith) (one_row _ (CharIndex code Italic) _ (grind arith) no_row)))

first_entries : (words : List ℕ) → AreNamed (first_entry_faults words)
unfolding first_entry_faults
first_entries words =
    one_row _ (FirstNotZero Width) _ (grind arith) (one_row _ (FirstNotZero Height) _ (grind arith)
    (one_row _ (FirstNotZero Depth) _ (grind arith) (one_row _ (FirstNotZero Italic) _ (grind arith) no_row)))

starts : (words : List ℕ) (code : ℕ) → AreNamed (start_faults words code)
unfolding start_faults
starts words code = one_row _ (LigStart code) _ (grind arith) no_row

parameters : (words : List ℕ) (n : ℕ) → AreNamed (parameter_faults words n)
unfolding parameter_faults
parameters words n = one_row _ (FixWordRange Param n) _ (grind arith) no_row

all_measures : (words : List ℕ) → AreNamed (all_measure_faults words)
unfolding all_measure_faults
all_measures words =
    both _ _ (both _ _ (both _ _ (both _ _ (both _ _ (measures words Width) (measures words Height)) (measures words Depth)) (measures words Italic)) (measures words KernTable))
    (every (parameter_faults words) (parameters words) (range_with_len 2 (entries_of words Param - 1)))

steps_by : (b : Bool) (one other : List (Bool × FontFault)) → AreNamed one → AreNamed other → AreNamed (if b then one else other)
steps_by true one other h k = h
steps_by false one other h k = k

restarts : (words : List ℕ) (i : ℕ) (step : Instruction) → AreNamed (restart_faults words i step)
unfolding restart_faults
restarts words i step = one_row _ (Step i _) _ (grind arith) no_row

plains : (words : List ℕ) (i : ℕ) (step : Instruction) → AreNamed (plain_faults words i step)
unfolding plain_faults
plains words i step =
    one_row _ (Step i _) _ (grind arith) (one_row _ (Step i _) _ (grind arith)
    (one_row _ (Step i _) _ (grind arith) (one_row _ (Step i _) _ (grind arith) no_row)))

instructions : (words : List ℕ) (i : ℕ) → AreNamed (instruction_faults words i)
unfolding instruction_faults
instructions words i = steps_by _ (restart_faults words i (step_at words i)) (plain_faults words i (step_at words i)) (restarts words i (step_at words i)) (plains words i (step_at words i))

tables : (words : List ℕ) → AreNamed (table_faults words)
unfolding table_faults
tables words =
    both _ _ (both _ _ (both _ _ (both _ _ (every (index_faults words) (indices words) (codes_of words)) (every (start_faults words) (starts words) (codes_of words)))
    (first_entries words)) (all_measures words)) (every (instruction_faults words) (instructions words) (range_with_len 0 (entries_of words LigKern)))

-- the first error in the tables of a font isn't the error that an allocation failed
pub named : (words : List ℕ) (fault : FontFault) → table_fault_of words ≡ Some fault → fault ≢ OutOfMemory
unfolding AreNamed
named words fault found = tables words fault found

-- a first font error that isn't a failed allocation is a possible error of reading the bytes that have it
pub refusal : (bytes : List ℕ) (fault : FontFault) → fault ≢ OutOfMemory → font_fault_of bytes ≡ Some fault → IsRefusalOf bytes fault
refusal bytes (Counts fault) other is = is
refusal bytes (Design fault) other is = is
refusal bytes (CharIndex code table) other is = is
refusal bytes (LigStart code) other is = is
refusal bytes (FirstNotZero table) other is = is
refusal bytes (FixWordRange table index) other is = is
refusal bytes (Step index part) other is = is
refusal bytes OutOfMemory other is = absurd (other refl)

-- the first font error of a file whose counts and design size have no error is the first error in its tables
pub fault_of_tables : (bytes : List ℕ) (words : List ℕ) (size : ℕ) (fault : FontFault) → count_fault_of bytes ≡ None → words ≡ words_of bytes
    → design_size_of words ≡ Ok size → table_fault_of words ≡ Some fault → font_fault_of bytes ≡ Some fault
fault_of_tables bytes words size fault counts same design tables =
    ap (after_counts bytes) counts ∙ ap (λ ws. after_design ws (design_size_of ws)) (sym same) ∙ ap (after_design words) design ∙ tables
