-- The result of a search is the address of an instruction for the code.
use Rattle.std.proofs.Common.{◌≡◌, ℕ, ◌<◌, ◌==◌, ◌&&◌, Bool, true, false, cond, List, [], ◌∷◌, Option, Some, None, IfSome, arith, rules, refl}
use Rattle.std.specs.Prelude.{nat_le}
use Rattle.std.specs.List.{slice_get, find}
use Rattle.std.specs.Option.{option_map_or, option_and_then}
use Rattle.std.proofs.lemmas.Option.{slice_get_within}
use Rattle.tfm_words.specs.declared.table.Table.TheVariants.{LigKern}
use Rattle.tfm_tables.specs.Table.{entries_of}
use Rattle.tfm_tables.specs.declared.step.Step.{Step}
use Rattle.tfm_tables.specs.declared.left_side.LeftSide.{LeftSide}
use Rattle.tfm_tables.specs.Program.{IsServing, program_of, step_at, start_of, chain_from, serves, address_of, address_between}
use Rattle.tfm_tables.proofs.ProgramLemmas.{length-program_of, program_of-get}

-- an element that `find` returns passes the test
pub found_passes : {X : Type 0} (p : X → Bool) (xs : List X) → IfSome (find p xs) (λ x. p x ≡ true)
found_passes p [] = tt
found_passes {X} p (x ∷ xs) = by (p x) refl (found_passes p xs)
  where
    by : (b : Bool) → p x ≡ b → IfSome (find p xs) (λ y. p y ≡ true) → IfSome (cond b (Some x) (find p xs)) (λ y. p y ≡ true)
    by true passes rest = passes
    by false fails rest = rest

-- an address that matches a code is that of an instruction for this code
serving_at : (words : List ℕ) (code address : ℕ) (here : Option Step) → slice_get (program_of words) address ≡ here
    → option_map_or (λ step. nat_le step.skip 128 && (step.next == code)) here false ≡ true → IsServing words code address
serving_at words code address None e passes = absurd (search rules)
serving_at words code address (Some step) e passes =
    let within : address < entries_of words LigKern = omega (arith, slice_get_within (program_of words) address step e, length-program_of words) in
    let is : step ≡ step_at words address = grind (arith, program_of-get words address within) in
    record {
      within = within;
      skip = grind arith;
      next = grind arith;
    }

serving_of : (words : List ℕ) (code start : ℕ) → IfSome (address_of (program_of words) start code) (IsServing words code)
unfolding address_of
serving_of words code start = by (find (serves (program_of words) code) (chain_from (program_of words) start)) (found_passes (serves (program_of words) code) (chain_from (program_of words) start))
  where
    by : (found : Option ℕ) → IfSome found (λ address. serves (program_of words) code address ≡ true) → IfSome found (IsServing words code)
    by None passes = tt
    by (Some address) passes = serving_at words code address (slice_get (program_of words) address) refl passes

-- the result of a search for a left side and a code
pub serving_between : (words : List ℕ) (left : LeftSide) (code : ℕ) → IfSome (address_between words left code) (IsServing words code)
unfolding address_between
serving_between words left code = by (start_of words left)
  where
    by : (start : Option ℕ) → IfSome (option_and_then (λ at. address_of (program_of words) at code) start) (IsServing words code)
    by None = tt
    by (Some at) = serving_of words code at

pub ruleset served = (serving_between)
