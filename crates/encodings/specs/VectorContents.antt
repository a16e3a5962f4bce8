-- A vector as contracts see it.
-- This project's own representation; Codes defines the codes.
use Rattle.std.specs.Prelude.{ℕ, List}

-- the numbers of the characters by code, and the codes that are tried first for characters
pub record Contents : Type 0 where
  pub characters : List ℕ
  pub hints : List ℕ
