-- The version of the library as one number.
-- This project's own.
use Rattle.std.specs.Prelude.{ℕ, ◌+◌, ◌*◌}

-- three numbers, of which the last two are below 1,000
abbrev pub version_number : ℕ → ℕ → ℕ → ℕ
version_number first second third = 1000000 * first + 1000 * second + third
