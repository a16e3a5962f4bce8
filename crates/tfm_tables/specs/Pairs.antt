-- The table of pairs that a font uses in place of a search along a chain: for each left side and each code
-- on the right, the address of the match.
-- This project's own representation; Program defines that address, `address_of`.
use Rattle.std.specs.Prelude.{◌≡◌, ℕ, ◌==◌, List, map, Option, Some, None, if◌then◌else◌}
use Rattle.std.specs.List.{range_with_len}
use Rattle.std.specs.Option.{option_and_then}
use Rattle.tfm_tables.specs.declared.step.Step.{Step}
use Rattle.tfm_tables.specs.declared.pairs.PairTable.{PairTable}
use Rattle.tfm_tables.specs.Program.{address_of}

-- the entry of a row: an address, or 65535 for none
abbrev pub entry_for : Option ℕ → ℕ
entry_for None = 65535
entry_for (Some address) = address

-- the address in an entry: none if it is 65535
abbrev pub address_in : ℕ → Option ℕ
address_in entry = if entry == 65535 then None else Some entry

-- the row of a left side with this starting address: the entries for the codes from 0 to 255. Without a
-- starting address no code has an address
unfoldable pub row_of : List Step → Option ℕ → List ℕ
row_of program start = map (λ code. entry_for (option_and_then (λ at. address_of program at code) start)) (range_with_len 0 256)

-- the table has the rows of these starting addresses, in order
abbrev pub IsTableOf : List Step → List (Option ℕ) → PairTable → Type 0
IsTableOf program starts table = table.rows.items ≡ map (row_of program) starts
