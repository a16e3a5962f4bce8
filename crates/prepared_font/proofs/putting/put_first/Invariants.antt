use Rattle.std.proofs.Common.{◌≡◌, ℕ, pos, ◌<◌, get_or, length}
use Rattle.prepared_font.specs.Layout.{number_at}
use Rattle.prepared_font.proofs.putting.put_first.Given as goal

abbrev pub invariant-loop-i : goal.invariant-loop-i
invariant-loop-i l = record {
  long : length l.room ≡ length l.fn.room;
  done : (k : ℕ) → k < l.i → number_at l.room k ≡ get_or l.numbers k (pos 0);
}
