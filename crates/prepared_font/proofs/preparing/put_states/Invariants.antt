use Rattle.std.proofs.Common.{◌≡◌, ℕ, ◌+◌, ◌<◌, length}
use Rattle.tfm_words.specs.Word.{word_at}
use Rattle.prepared_font.specs.Layout.{number_at, state_of}
use Rattle.prepared_font.proofs.preparing.put_states.Given as goal

abbrev pub invariant-loop-code : goal.invariant-loop-code
invariant-loop-code l = record {
  long : length l.room ≡ length l.fn.room;
  done : (code : ℕ) → code < l.code → number_at l.room (265 + code) ≡ state_of l.font.words code;
  before : (k : ℕ) → k < 265 → word_at l.room k ≡ word_at l.fn.room k;
}
