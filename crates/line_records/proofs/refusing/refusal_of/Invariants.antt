use Rattle.std.proofs.Common.{◌≡◌, None}
use Rattle.line_records.proofs.RefusalLemmas.{refusal_after}
use Rattle.line_records.proofs.refusing.refusal_of.Given as goal

abbrev pub invariant-loop-place : goal.invariant-loop-place
invariant-loop-place l =
    (goal.iterator-loop-place).can_next l.place-iterator
    × (goal.iterator-loop-place).is_finite l.place-iterator
    × (refusal_after l.font l.encoding None l.fn.places ≡ refusal_after l.font l.encoding l.missing l.place-iterator)
