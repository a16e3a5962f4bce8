use Rattle.std.proofs.Common.{◌≡◌, ℕ, ◌+◌, ◌<◌, ◌≤◌, length}
use Rattle.tfm_words.specs.Word.{word_at}
use Rattle.tfm_words.specs.declared.table.Table.TheVariants.{Kern}
use Rattle.tfm_tables.specs.Table.{entries_of}
use Rattle.tfm_tables.specs.Program.{step_at}
use Rattle.tfm_tables.specs.Acceptance.{kern_index_of}
use Rattle.prepared_font.specs.Layout.{bytes_of}
use Rattle.prepared_font.proofs.preparing.put_steps.Given as goal

abbrev pub invariant-loop-i : goal.invariant-loop-i
invariant-loop-i l = record {
  long : length l.room ≡ length l.fn.room;
  done : (k : ℕ) → k < l.i → word_at l.room (521 + k) ≡ bytes_of (step_at l.font.words k);
  sound : (k : ℕ) → k < l.i → (step_at l.font.words k).skip ≤ 128 → 128 ≤ (step_at l.font.words k).op → kern_index_of (step_at l.font.words k) < entries_of l.font.words Kern;
  before : (k : ℕ) → k < 521 → word_at l.room k ≡ word_at l.fn.room k;
}
