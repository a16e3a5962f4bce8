-- The invariant of the fields of an opened table.
-- This project's own representation.
use Rattle.std.specs.Prelude.{◌≡◌, ℕ, pos, ◌+◌, ◌*◌, ◌<◌, ◌≤◌, ◌^◌, length, List}
use Rattle.prepared_font.specs.Layout.{number_at}

-- these are the numbers of instructions and of kerns of a table, which is within the bytes
pub record IsOpened (bytes : List ℕ) (steps kerns : ℕ) : Type 0 where
  pub few : steps < 2 ^ 31
  pub within : 4 * (521 + steps + kerns) ≤ length bytes
  pub is_steps : number_at bytes 3 ≡ pos steps
  pub is_kerns : number_at bytes 4 ≡ pos kerns
