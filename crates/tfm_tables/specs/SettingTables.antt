-- The invariant of the fields of a font: the two tables that it adds to its metrics for setting lines.
-- This project's own representation.
use Rattle.std.specs.Prelude.{◌≡◌, ◌≤◌, ◌^◌, length}
use Rattle.tfm_tables.specs.declared.font.Font.TheInside.{Inside}
use Rattle.tfm_tables.specs.Program.{program_of}
use Rattle.tfm_tables.specs.Sound.{HasSoundTables}
use Rattle.tfm_tables.specs.Decoded.{characters_of, starts_of}
use Rattle.tfm_tables.specs.Pairs.{IsTableOf}

-- the words of the font have sound tables and at most 2^15 instructions, and the table of pairs and the table
-- of characters are as the definitions state
pub record HasSettingTables (f : Inside) : Type 0 where
  pub sound : HasSoundTables f.metrics.words
  pub few : length (program_of f.metrics.words) ≤ 2 ^ 15
  pub pairs : IsTableOf (program_of f.metrics.words) (starts_of f.metrics.words) f.pairs
  pub characters : f.characters.items ≡ characters_of f.metrics.words f.metrics.size
