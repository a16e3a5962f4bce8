-- The instructions of a program, by address.
use Rattle.std.proofs.Common.{◌≡◌, ℕ, ◌<◌, ◌≤◌, List, length, get_or, Some, None, arith, ap, sym, subst, ◌∙◌}
use Rattle.std.proofs.lemmas.Option.{slice_get-get_or, slice_get_past}
use Rattle.std.proofs.lemmas.List.FromFn.{length-map-range_with_len, get_or-map-range_with_len}
use Rattle.std.specs.List.{slice_get}
use Rattle.tfm_words.specs.declared.table.Table.TheVariants.{LigKern}
use Rattle.tfm_tables.specs.Table.{entries_of}
use Rattle.tfm_tables.specs.declared.step.Step.{Step}
use Rattle.tfm_tables.specs.Sound.{HasSoundTables, IsSoundStep}
use Rattle.tfm_tables.specs.Program.{program_of, step_at}

pub length-program_of : (words : List ℕ) → length (program_of words) ≡ entries_of words LigKern
unfolding program_of
length-program_of words = length-map-range_with_len (step_at words) 0 (entries_of words LigKern)

pub program_of-get : (words : List ℕ) (i : ℕ) → i < entries_of words LigKern → slice_get (program_of words) i ≡ Some (step_at words i)
unfolding program_of
program_of-get words i h =
    slice_get-get_or (program_of words) i (step_at words i) (omega (arith, length-program_of words))
    ∙ ap Some (get_or-map-range_with_len (step_at words) 0 (entries_of words LigKern) i i (step_at words i) h (omega arith))

pub program_of-entry : (words : List ℕ) (i : ℕ) (d : Step) → i < entries_of words LigKern → get_or (program_of words) i d ≡ step_at words i
unfolding program_of
program_of-entry words i d h = get_or-map-range_with_len (step_at words) 0 (entries_of words LigKern) i i d h (omega arith)

pub sound_at : (words : List ℕ) (i : ℕ) (step : Step) → HasSoundTables words → i < entries_of words LigKern → step ≡ step_at words i → IsSoundStep words i step
sound_at words i step sound h is = let family : Step → Type 0 = λ s. IsSoundStep words i s in subst family (sym is) (sound.steps i h)

pub program_of-past : (words : List ℕ) (i : ℕ) → entries_of words LigKern ≤ i → slice_get (program_of words) i ≡ None
program_of-past words i h = slice_get_past (program_of words) i (omega (arith, length-program_of words))

pub ruleset reads = (program_of-entry, length-program_of, sound_at)

pub ruleset instructions = (program_of-get, program_of-past, length-program_of)
