-- One instruction of a search: the match is there, or in the rest of the chain, or there is none.
use Rattle.std.proofs.Common.{◌≡◌, ℕ, ◌<◌, ◌≤◌, ◌+◌, ◌≢◌, List, Option, Some, None, IfSome, rules, arith, refl, sym, ap, ◌∙◌}
use Rattle.std.specs.List.{slice_get}
use Rattle.std.specs.Option.{option_or}
use Rattle.tfm_tables.specs.declared.step.Step.{Step}
use Rattle.std.specs.Option.{option_and_then}
use Rattle.tfm_words.specs.declared.table.Table.TheVariants.{LigKern}
use Rattle.tfm_tables.specs.declared.left_side.LeftSide.{LeftSide}
use Rattle.tfm_tables.specs.Table.{entries_of}
use Rattle.tfm_tables.specs.Program.{IsServing, address_of, address_between, step_at}
use Rattle.lig_kern.specs.declared.symbol.Symbol.{Symbol}
use Rattle.lig_kern.specs.Matching.{match_of, left_side_of, code_of}
use Rattle.tfm_tables.proofs.ChainLemmas.{served_by, walk_past, walk_on, walk_end}
use Rattle.tfm_tables.proofs.ServingLemmas.{serving_between}
use Rattle.tfm_tables.proofs.ProgramLemmas.{length-program_of, program_of-get, program_of-past}

pub ruleset instructions = (length-program_of, program_of-get, program_of-past)

pub chain_past : (program : List Step) (at code : ℕ) → slice_get program at ≡ None → address_of program at code ≡ None
chain_past program at code past = walk_past None program at code past

hit_served : (step : Step) (at code : ℕ) → step.skip ≤ 128 → step.next ≡ code → served_by step code at ≡ Some at
hit_served step at code low is = grind arith

miss_served : (step : Step) (at code : ℕ) → step.next ≢ code → served_by step code at ≡ None
miss_served step at code not = grind arith

high_served : (step : Step) (at code : ℕ) → 128 < step.skip → served_by step code at ≡ None
high_served step at code high = grind arith

pub chain_on : (program : List Step) (at code next : ℕ) (step : Step) → slice_get program at ≡ Some step → step.skip < 128 → next ≡ at + step.skip + 1 → step.next ≢ code → address_of program at code ≡ address_of program next code
chain_on program at code next step here low next_is not =
    sym (walk_on None program at code next step here low next_is) ∙ ap (λ o. option_or (option_or None o) (address_of program next code)) (miss_served step at code not)

hit_on : (program : List Step) (at code : ℕ) (step : Step) → slice_get program at ≡ Some step → step.skip < 128 → step.next ≡ code → address_of program at code ≡ Some at
hit_on program at code step here low is =
    sym (walk_on None program at code (at + step.skip + 1) step here low refl) ∙ ap (λ o. option_or (option_or None o) (address_of program (at + step.skip + 1) code)) (hit_served step at code (omega arith) is)

hit_end : (program : List Step) (at code : ℕ) (step : Step) → slice_get program at ≡ Some step → 128 ≤ step.skip → step.skip ≤ 128 → step.next ≡ code → address_of program at code ≡ Some at
hit_end program at code step here high low is = sym (walk_end None program at code step here high) ∙ hit_served step at code low is

pub chain_hit : (program : List Step) (at code : ℕ) (step : Step) → slice_get program at ≡ Some step → step.skip ≤ 128 → step.next ≡ code → address_of program at code ≡ Some at
chain_hit program at code step here low is = grind (arith, hit_on program at code step here, hit_end program at code step here)

pub chain_end : (program : List Step) (at code : ℕ) (step : Step) → slice_get program at ≡ Some step → 128 ≤ step.skip → step.next ≢ code → address_of program at code ≡ None
chain_end program at code step here high not = sym (walk_end None program at code step here high) ∙ miss_served step at code not

pub chain_high : (program : List Step) (at code : ℕ) (step : Step) → slice_get program at ≡ Some step → 128 < step.skip → address_of program at code ≡ None
chain_high program at code step here high = sym (walk_end None program at code step here (omega arith)) ∙ high_served step at code high

pub matched : (words : List ℕ) (left right : Symbol) (address : ℕ) → match_of words left right ≡ Some address
    → (address < entries_of words LigKern) × ((step_at words address).skip ≤ 128)
unfolding match_of
matched words left right address = by (left_side_of left) (code_of words right)
  where
    served : (code : ℕ) (found : Option ℕ) → IfSome found (IsServing words code) → found ≡ Some address → (address < entries_of words LigKern) × ((step_at words address).skip ≤ 128)
    served code None serves e = absurd (search rules)
    served code (Some a) serves e = (grind (arith, serves.within), grind (arith, serves.skip))

    by : (side : Option LeftSide) (code : Option ℕ) → option_and_then (λ s. option_and_then (address_between words s) code) side ≡ Some address → (address < entries_of words LigKern) × ((step_at words address).skip ≤ 128)
    by None code e = absurd (search rules)
    by (Some side) None e = absurd (search rules)
    by (Some side) (Some code) e = served code (address_between words side code) (serving_between words side code) e
