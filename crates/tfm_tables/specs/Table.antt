-- The ten tables of a font, as parts of its words, and their entries.
-- Public source: tftopl.web, sections 8 and 9; tex.web, sections 540 to 542.
use Rattle.std.specs.Prelude.{ℕ, ◌*◌, List, take, drop}
use Rattle.tfm_words.specs.declared.table.Table.{Table}
use Rattle.tfm_words.specs.Counts.{counts_of, first_word_of, length_of}
use Rattle.tfm_words.specs.Word.{word_at}

-- the number of entries of a table
abbrev pub entries_of : List ℕ → Table → ℕ
entries_of words table = length_of (counts_of words) table

-- the bytes of a table
unfoldable pub table_of : List ℕ → Table → List ℕ
table_of words table = take (4 * entries_of words table) (drop (4 * first_word_of (counts_of words) table) words)

-- entry i of a table, counted from 0, which is a word
unfoldable pub entry_at : List ℕ → Table → ℕ → List ℕ
entry_at words table i = word_at (table_of words table) i
