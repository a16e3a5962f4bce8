-- The scaled values of the table entries of a font at a size: dimensions of characters, kerns and parameters.
-- Public source: tex.web, sections 571 to 573 and 575.
use Rattle.std.specs.Prelude.{ℕ, ℤ, pos, ◌-◌, ◌==◌, ◌&&◌, nat_lt, nat_le, List, map, unwrap_or, Option, if◌then◌else◌}
use Rattle.std.specs.List.{range_with_len}
use Rattle.tfm_words.specs.declared.table.Table.{Table}
use Rattle.tfm_words.specs.declared.table.Table.TheVariants.{Kern, Param}
use Rattle.tfm_words.specs.Word.{value_of}
use Rattle.tfm_words.specs.Scaling.{scaled_at}
use Rattle.tfm_tables.specs.Table.{entries_of, entry_at}

-- the scaled value of entry i of a table, counted from 0, at a size, in sp; none if the entry can't be
-- scaled. In an accepted font every kern, every dimension of a character and every parameter except the
-- slant can be scaled (HasScalableMeasures)
abbrev pub scaled_entry : List ℕ → ℕ → Table → ℕ → Option ℤ
scaled_entry words size table i = scaled_at (value_of (entry_at words table i)) size

-- the scaled value of a word at a size, in sp; 0 for a word that can't be scaled
unfoldable pub measure_of : List ℕ → ℕ → ℤ
measure_of word size = unwrap_or (scaled_at (value_of word) size) (pos 0)

-- the scaled value of entry i of a table at a size, in sp; 0 for an entry that can't be scaled
abbrev pub measure_at : List ℕ → ℕ → Table → ℕ → ℤ
measure_at words size table i = measure_of (entry_at words table i) size

-- kern k, counted from 0, in sp at a size
unfoldable pub kern_at : List ℕ → ℕ → ℕ → ℤ
kern_at words size k = measure_at words size Kern k

-- parameter n, counted from 1, in sp at a size, except that parameter 1, the slant, is a plain number in
-- units of 2^-20 that isn't scaled; 0 for a number without a parameter
unfoldable pub parameter_of : List ℕ → ℕ → ℕ → ℤ
parameter_of words size n =
    if nat_lt 0 n && nat_le n (entries_of words Param)
    then (if n == 1 then value_of (entry_at words Param 0) else measure_at words size Param (n - 1))
    else pos 0

-- the parameters at a size, from number 1 upward
abbrev pub parameters_of : List ℕ → ℕ → List ℤ
parameters_of words size = map (parameter_of words size) (range_with_len 1 (entries_of words Param))
