use Rattle.std.proofs.Common.{◌≡◌, ℕ, ◌+◌, ◌<◌, length}
use Rattle.tfm_words.specs.Word.{word_at}
use Rattle.tfm_words.specs.declared.table.Table.TheVariants.{LigKern}
use Rattle.tfm_tables.specs.Table.{entries_of}
use Rattle.tfm_tables.specs.Measure.{kern_at}
use Rattle.prepared_font.specs.Layout.{number_at}
use Rattle.prepared_font.proofs.preparing.put_kerns.Given as goal

abbrev pub invariant-loop-k : goal.invariant-loop-k
invariant-loop-k l = record {
  long : length l.room ≡ length l.fn.room;
  done : (j : ℕ) → j < l.k → number_at l.room (521 + entries_of l.font.words LigKern + j) ≡ kern_at l.font.words l.font.size j;
  before : (j : ℕ) → j < 521 + entries_of l.font.words LigKern → word_at l.room j ≡ word_at l.fn.room j;
}
