-- The data that a font computes once from its words for setting lines: lists by character code, and the
-- starting addresses of programs.
-- This project's own representation; each entry has the value that the other definitions give it.
use Rattle.std.specs.Prelude.{ℕ, List, [], ◌∷◌, ◌++◌, map, Option}
use Rattle.std.specs.List.{range_with_len}
use Rattle.tfm_tables.specs.declared.metrics.Metrics.{Metrics}
use Rattle.tfm_tables.specs.declared.left_side.LeftSide.TheVariants.{Boundary, Char}
use Rattle.tfm_tables.specs.Character.{metrics_of}
use Rattle.tfm_tables.specs.Program.{start_of}

-- the dimensions at a size of the codes from 0 to 255, or none for a code without a character
unfoldable pub characters_of : List ℕ → ℕ → List (Option Metrics)
characters_of words size = map (metrics_of words size) (range_with_len 0 256)

-- the starting address of each left side: those of the codes from 0 to 255, and then that of the left boundary
unfoldable pub starts_of : List ℕ → List (Option ℕ)
starts_of words = map (λ code. start_of words (Char code)) (range_with_len 0 256) ++ start_of words Boundary ∷ []
