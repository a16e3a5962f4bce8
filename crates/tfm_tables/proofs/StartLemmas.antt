-- In a font with sound tables, every starting address is that of an instruction.
use Rattle.std.proofs.Common.{◌≡◌, ℕ, zero, suc, ◌&&◌, ◌-◌, ◌<◌, ◌==◌, Bool, true, false, List, length, Option, Some, None, IfSome, arith, refl, sym, ap, subst, if◌then◌else◌}
use Rattle.std.specs.Prelude.{nat_lt}
use Rattle.std.specs.List.{slice_get}
use Rattle.std.specs.Option.{option_and_then}
use Rattle.std.proofs.lemmas.Option.{slice_get_within}
use Rattle.std.proofs.lemmas.Bool.Decides.{nat_tests}
use Rattle.tfm_words.specs.declared.table.Table.TheVariants.{LigKern}
use Rattle.tfm_tables.specs.declared.step.Step.{Step}
use Rattle.tfm_tables.specs.declared.left_side.LeftSide.{LeftSide}
use Rattle.tfm_tables.specs.declared.left_side.LeftSide.TheVariants.{Boundary, Char}
use Rattle.tfm_tables.specs.Table.{entries_of}
use Rattle.tfm_tables.specs.Character.{char_info_of, exists, is_coded, remainder_of, tag_number, tag_with}
use Rattle.tfm_tables.specs.Program.{begin_at, left_start_of, program_of, start_of, step_at, tag_start, target_of}
use Rattle.tfm_tables.specs.Sound.{HasSoundTables}
use Rattle.tfm_tables.proofs.ProgramLemmas.{length-program_of, program_of-get}

-- the target of an instruction with a skip above 128 is the address of an instruction
target_within : (words : List ℕ) (i : ℕ) (step : Step) → HasSoundTables words → i < entries_of words LigKern → step ≡ step_at words i
    → 128 < step.skip → target_of step < entries_of words LigKern
target_within words i step sound within is above =
    let same : target_of (step_at words i) ≡ target_of step = ap target_of (sym is) in
    omega (arith, (sound.steps i within).restart (subst (λ (s : Step). 128 < s.skip) is above), same)

-- the starting address that `begin_at` computes from the address of an instruction
by_step : (words : List ℕ) (first : ℕ) (step : Step) (b : Bool) → HasSoundTables words → first < entries_of words LigKern → step ≡ step_at words first
    → nat_lt 128 step.skip ≡ b → (if b then target_of step else first) < entries_of words LigKern
by_step words first step true sound within is above = target_within words first step sound within is (grind (arith, nat_tests, above))
by_step words first step false sound within is above = within

begin_within : (words : List ℕ) (first : ℕ) → HasSoundTables words → first < entries_of words LigKern → begin_at (program_of words) first < entries_of words LigKern
unfolding begin_at
begin_within words first sound within = rw (program_of-get words first within) (by_step words first (step_at words first) (nat_lt 128 (step_at words first).skip) sound within refl refl)

-- the starting address of the left boundary's program
by_last : (words : List ℕ) (step : Step) (b : Bool) → HasSoundTables words → length (program_of words) - 1 < length (program_of words)
    → step ≡ step_at words (length (program_of words) - 1) → (step.skip == 255) ≡ b
    → IfSome (if b then Some (target_of step) else None) (λ at. at < entries_of words LigKern)
by_last words step true sound within is last =
    target_within words (length (program_of words) - 1) step sound (omega (arith, length-program_of words)) is (grind (arith, nat_tests, last))
by_last words step false sound within is last = tt

left_by : (words : List ℕ) (here : Option Step) → HasSoundTables words → slice_get (program_of words) (length (program_of words) - 1) ≡ here
    → IfSome (option_and_then (λ step. if step.skip == 255 then Some (target_of step) else None) here) (λ at. at < entries_of words LigKern)
left_by words None sound got = tt
left_by words (Some step) sound got =
    let within : length (program_of words) - 1 < length (program_of words) = slice_get_within (program_of words) (length (program_of words) - 1) step got in
    let is : step ≡ step_at words (length (program_of words) - 1) =
    grind (arith, got, program_of-get words (length (program_of words) - 1) (omega (arith, length-program_of words))) in
    by_last words step (step.skip == 255) sound within is refl

left_within : (words : List ℕ) → HasSoundTables words → IfSome (left_start_of (program_of words)) (λ at. at < entries_of words LigKern)
unfolding left_start_of
left_within words sound = left_by words (slice_get (program_of words) (length (program_of words) - 1)) sound refl

-- the starting address of a character's program
coded_of : (b c : Bool) → (b && c) ≡ true → b ≡ true
coded_of true c is = refl
coded_of false c is = is

exists_coded : (words : List ℕ) (code : ℕ) → exists words code ≡ true → is_coded words code ≡ true
unfolding exists
exists_coded words code is = coded_of (is_coded words code) _ is

by_tag : (words : List ℕ) (code tag : ℕ) → HasSoundTables words → is_coded words code ≡ true → tag_number (char_info_of words code) ≡ tag
    → IfSome (tag_start (program_of words) (tag_with tag (remainder_of (char_info_of words code)))) (λ at. at < entries_of words LigKern)
by_tag words code zero sound coded is = tt
by_tag words code (suc zero) sound coded is = begin_within words (remainder_of (char_info_of words code)) sound (sound.starts code coded is)
by_tag words code (suc (suc zero)) sound coded is = tt
by_tag words code (suc (suc (suc more))) sound coded is = tt

by_existence : (words : List ℕ) (code : ℕ) (b : Bool) → HasSoundTables words → exists words code ≡ b
    → IfSome (option_and_then (tag_start (program_of words))
    (if b then Some (tag_with (tag_number (char_info_of words code)) (remainder_of (char_info_of words code))) else None)) (λ at. at < entries_of words LigKern)
by_existence words code true sound is = by_tag words code (tag_number (char_info_of words code)) sound (exists_coded words code is) refl
by_existence words code false sound is = tt

-- the starting address of a left side's program
start_within : (words : List ℕ) (left : LeftSide) → HasSoundTables words → IfSome (start_of words left) (λ at. at < entries_of words LigKern)
unfolding start_of
start_within words Boundary sound = left_within words sound
start_within words (Char code) sound = by_existence words code (exists words code) sound refl

pub begun_within : (words : List ℕ) (left : LeftSide) (start : Option ℕ) → HasSoundTables words → start ≡ start_of words left → IfSome start (λ at. at < entries_of words LigKern)
begun_within words left start sound is = subst (λ (s : Option ℕ). IfSome s (λ at. at < entries_of words LigKern)) (sym is) (start_within words left sound)
