-- The bytes of a table, as a part of the words of a font.
use Rattle.std.proofs.Common.{◌≡◌, ℕ, ◌+◌, ◌-◌, ◌*◌, List, take, drop, arith, refl}
use Rattle.tfm_words.specs.declared.numbers.Numbers.{Numbers}
use Rattle.tfm_words.specs.declared.table.Table.{Table}
use Rattle.tfm_words.specs.Counts.{counts_of, first_word_of, length_of}
use Rattle.tfm_tables.specs.Table.{table_of}

pub table_slice : (words : List ℕ) (c : Numbers) (table : Table) (first size : ℕ)
    → c ≡ counts_of words → first ≡ first_word_of c table → size ≡ length_of c table
    → take (4 * (first + size) - 4 * first) (drop (4 * first) words) ≡ table_of words table
unfolding table_of
table_slice words c table first size is first_is size_is =
    let e : 4 * (first + size) - 4 * first ≡ 4 * size = omega arith in
    rw (e, first_is, size_is, is) refl
