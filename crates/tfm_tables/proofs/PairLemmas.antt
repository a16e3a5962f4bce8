-- The rows of the table of pairs, and their entries.
use Rattle.std.proofs.Common.{◌≡◌, ℕ, ◌<◌, ◌≤◌, ◌^◌, ◌==◌, ◌&&◌, true, false, List, length, map, get_or, Option, Some, None, IfSome, arith, rules, refl, ap, sym, subst, ◌∙◌}
use Rattle.std.specs.Prelude.{nat_le}
use Rattle.std.specs.List.{range_with_len, slice_get}
use Rattle.std.specs.Option.{option_and_then, option_map_or}
use Rattle.std.proofs.lemmas.Bool.Decides.{nat_tests}
use Rattle.std.proofs.lemmas.List.{ext_get_or, get_or-map}
use Rattle.std.proofs.lemmas.List.FromFn.{length-map-range_with_len, get_or-map-range_with_len}
use Rattle.std.proofs.lemmas.Option.{same_Some, slice_get-get_or, slice_get_within}
use Rattle.tfm_tables.specs.declared.step.Step.{Step}
use Rattle.tfm_tables.specs.Program.{address_of, chain_from, serves}
use Rattle.tfm_tables.specs.Pairs.{address_in, entry_for, row_of}
use Rattle.tfm_tables.proofs.ServingLemmas.{found_passes}

-- the address of the match for a starting address and a code
abbrev pub address_for : List Step → Option ℕ → ℕ → Option ℕ
address_for program start code = option_and_then (λ at. address_of program at code) start

-- an entry is that of the address in it
entry_is : (entry : ℕ) → entry ≡ entry_for (address_in entry)
entry_is entry = grind (arith, nat_tests)

-- a list with the addresses of a row is that row
pub row_is : (program : List Step) (start : Option ℕ) (row : List ℕ) → length row ≡ 256
    → ((code : ℕ) → code < 256 → address_in (get_or row code 0) ≡ address_for program start code) → row ≡ row_of program start
unfolding row_of
row_is program start row long addresses =
    let entry : ℕ → ℕ = λ code. entry_for (address_for program start code) in
    ext_get_or 0 row (map entry (range_with_len 0 256)) (long ∙ sym (length-map-range_with_len entry 0 256))
    (λ code within. entry_is (get_or row code 0) ∙ ap entry_for (addresses code (omega (arith, long)))
    ∙ sym (get_or-map-range_with_len entry 0 256 code code 0 (omega (arith, long)) (omega arith)))

-- an entry of a row
entry_of_row : (program : List Step) (start : Option ℕ) (code : ℕ) → code < 256 → get_or (row_of program start) code 0 ≡ entry_for (address_for program start code)
unfolding row_of
entry_of_row program start code small = get_or-map-range_with_len (λ code. entry_for (address_for program start code)) 0 256 code code 0 small (omega arith)

-- an entry of the table
entry_of_table : (program : List Step) (starts : List (Option ℕ)) (rows : List (List ℕ)) (side code : ℕ) (start : Option ℕ) (d : List ℕ) → rows ≡ map (row_of program) starts
    → slice_get starts side ≡ Some start → code < 256 → get_or (get_or rows side d) code 0 ≡ entry_for (address_for program start code)
entry_of_table program starts rows side code start d is here small =
    ap (λ rs. get_or (get_or rs side d) code 0) is
    ∙ (ap (λ row. get_or row code 0) (get_or-map (row_of program) starts side start d (slice_get_within starts side start here))
    ∙ (ap (λ s. get_or (row_of program s) code 0) (same_Some _ _ (sym (slice_get-get_or starts side start (slice_get_within starts side start here)) ∙ here))
    ∙ entry_of_row program start code small))

-- an address that matches a code is that of an instruction
address_within : (program : List Step) (start code address : ℕ) → address_of program start code ≡ Some address → address < length program
unfolding address_of
address_within program start code address is =
    let passes : serves program code address ≡ true = subst (λ found. IfSome found (λ a. serves program code a ≡ true)) is (found_passes (serves program code) (chain_from program start)) in
    by (slice_get program address) refl passes
  where
    by : (here : Option Step) → slice_get program address ≡ here → option_map_or (λ step. nat_le step.skip 128 && (step.next == code)) here false ≡ true → address < length program
    by None e passes = absurd (search rules)
    by (Some step) e passes = slice_get_within program address step e

-- the entry of an address, which is below 32,768, has this address
entry_holds : (program : List Step) (start : Option ℕ) (code : ℕ) → length program ≤ 2 ^ 15 → address_in (entry_for (address_for program start code)) ≡ address_for program start code
entry_holds program None code few = refl
entry_holds program (Some at) code few = by (address_of program at code) refl
  where
    by : (found : Option ℕ) → address_of program at code ≡ found → address_in (entry_for found) ≡ found
    by None e = refl
    by (Some address) e =
        let within = address_within program at code address e in
        grind (arith, nat_tests)

-- the address in an entry of a row of the table
pub address_in_row : (program : List Step) (starts : List (Option ℕ)) (rows : List (List ℕ)) (side code at : ℕ) (start : Option ℕ) (row : List ℕ) → length program ≤ 2 ^ 15 → rows ≡ map (row_of program) starts
    → slice_get starts side ≡ Some start → row ≡ get_or rows side row → at ≡ code → code < 256 → address_in (get_or row at 0) ≡ address_for program start code
address_in_row program starts rows side code at start row few is here read same small =
    rw (read, same) (rw (entry_of_table program starts rows side code start row is here small) (entry_holds program start code few))
