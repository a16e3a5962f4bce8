-- A chain is followed one instruction at a time, and an address that was found before has priority over one
-- that is found in the rest of the chain.
use Rattle.std.proofs.Common.{◌≡◌, ℕ, zero, suc, ◌+◌, ◌<◌, ◌≤◌, ◌==◌, ◌&&◌, true, false, cond, List, [], ◌∷◌, length, Option, Some, None, arith, refl, sym}
use Rattle.std.specs.Prelude.{nat_le, if◌then◌else◌}
use Rattle.std.specs.List.{slice_get, find}
use Rattle.std.specs.Option.{option_or, option_map_or}
use Rattle.std.proofs.lemmas.Option.{slice_get_past, slice_get_within}
use Rattle.std.proofs.lemmas.Bool.{le-leb, lt-leb}
use Rattle.tfm_tables.specs.declared.step.Step.{Step}
use Rattle.tfm_tables.specs.Program.{chain_within, chain_from, serves, address_of}

-- a chain ends at an address without an instruction
chain_past : (n : ℕ) (program : List Step) (address : ℕ) → slice_get program address ≡ None → chain_within n program address ≡ []
chain_past zero program address past = refl
chain_past (suc n) program address past = rw past refl

-- a limit that the chain can't reach makes no difference, since addresses increase
chain_enough : (n m : ℕ) (program : List Step) (address : ℕ)
    → length program ≤ n + address → length program ≤ m + address → chain_within n program address ≡ chain_within m program address
chain_enough zero zero program address enough enough' = refl
chain_enough zero (suc m) program address enough enough' = sym (chain_past (suc m) program address (slice_get_past program address (omega arith)))
chain_enough (suc n) zero program address enough enough' = chain_past (suc n) program address (slice_get_past program address (omega arith))
chain_enough (suc n) (suc m) program address enough enough' =
    elim (slice_get program address)
    as (λ here. option_map_or (λ step. address ∷ (if nat_le 128 step.skip then [] else chain_within n program (address + step.skip + 1))) here []
    ≡ option_map_or (λ step. address ∷ (if nat_le 128 step.skip then [] else chain_within m program (address + step.skip + 1))) here []) [
      | None ↦ refl
      | Some step ↦ rw (chain_enough n m program (address + step.skip + 1) (omega arith) (omega arith)) refl
    ]

-- the first instruction of a chain, and the rest of the chain
chain_step : (n : ℕ) (program : List Step) (address : ℕ) (step : Step) → length program ≤ n + address → slice_get program address ≡ Some step
    → chain_within n program address ≡ address ∷ (if nat_le 128 step.skip then [] else chain_within n program (address + step.skip + 1))
chain_step zero program address step enough here = absurd (omega (arith, slice_get_within program address step here))
chain_step (suc n) program address step enough here =
    rw here (rw (chain_enough n (suc n) program (address + step.skip + 1) (omega arith) (omega arith)) refl)

-- the address of an instruction if it matches a code; otherwise none
abbrev pub served_by : Step → ℕ → ℕ → Option ℕ
served_by step code address = if nat_le step.skip 128 && (step.next == code) then Some address else None

-- no code has a match in a chain that begins at an address without an instruction
address_past : (program : List Step) (address code : ℕ) → slice_get program address ≡ None → address_of program address code ≡ None
unfolding address_of chain_from
address_past program address code past = rw (chain_past (length program) program address past) refl

address_step : (program : List Step) (address code : ℕ) (step : Step) → slice_get program address ≡ Some step
    → address_of program address code
    ≡ option_or (served_by step code address) (if nat_le 128 step.skip then None else address_of program (address + step.skip + 1) code)
unfolding address_of chain_from
address_step program address code step here =
    rw (chain_step (length program) program address step (omega arith) here)
    (rw here
    (elim (nat_le step.skip 128 && (step.next == code))
    as (λ serves_it. cond serves_it (Some address) (find (serves program code) (if nat_le 128 step.skip then [] else chain_within (length program) program (address + step.skip + 1)))
    ≡ option_or (if serves_it then Some address else None) (if nat_le 128 step.skip then None else find (serves program code) (chain_within (length program) program (address + step.skip + 1)))) [
      | true ↦ refl
      | false ↦ elim (nat_le 128 step.skip)
          as (λ stops. find (serves program code) (if stops then [] else chain_within (length program) program (address + step.skip + 1))
          ≡ (if stops then None else find (serves program code) (chain_within (length program) program (address + step.skip + 1))))
          [ true ↦ refl | false ↦ refl ]
    ]))

-- ---- the invariant of a walk

-- the address recorded for a code, or otherwise the match in the rest of the chain, is the match in the
-- whole chain
pub walk_past : (mark : Option ℕ) (program : List Step) (address code : ℕ) → slice_get program address ≡ None
    → option_or mark (address_of program address code) ≡ mark
walk_past mark program address code past =
    rw (address_past program address code past) (elim mark as (λ o. option_or o None ≡ o) [ None ↦ refl | Some x ↦ refl ])

pub walk_on : (mark : Option ℕ) (program : List Step) (address code next : ℕ) (step : Step) → slice_get program address ≡ Some step → step.skip < 128 → next ≡ address + step.skip + 1
    → option_or (option_or mark (served_by step code address)) (address_of program next code) ≡ option_or mark (address_of program address code)
walk_on mark program address code next step here goes_on next_is =
    rw (next_is, address_step program address code step here, lt-leb 128 step.skip goes_on)
    (elim mark
    as (λ o. option_or (option_or o (served_by step code address)) (address_of program (address + step.skip + 1) code)
    ≡ option_or o (option_or (served_by step code address) (address_of program (address + step.skip + 1) code)))
    [ None ↦ refl | Some x ↦ refl ])

pub walk_end : (mark : Option ℕ) (program : List Step) (address code : ℕ) (step : Step) → slice_get program address ≡ Some step → 128 ≤ step.skip
    → option_or mark (served_by step code address) ≡ option_or mark (address_of program address code)
walk_end mark program address code step here ends =
    rw (address_step program address code step here, le-leb 128 step.skip ends)
    (elim (served_by step code address) as (λ o. option_or mark o ≡ option_or mark (option_or o None)) [ None ↦ refl | Some x ↦ refl ])
