use Rattle.std.proofs.Common.{◌≡◌, ℕ, ◌+◌, ◌<◌, length}
use Rattle.tfm_words.specs.Word.{word_at}
use Rattle.tfm_tables.specs.Character.{character_width_of}
use Rattle.prepared_font.specs.Layout.{number_at}
use Rattle.prepared_font.proofs.preparing.put_widths.Given as goal

abbrev pub invariant-loop-code : goal.invariant-loop-code
invariant-loop-code l = record {
  long : length l.room ≡ length l.fn.room;
  done : (code : ℕ) → code < l.code → number_at l.room (9 + code) ≡ character_width_of l.font.words l.font.size code;
  before : (k : ℕ) → k < 9 → word_at l.room k ≡ word_at l.fn.room k;
}
