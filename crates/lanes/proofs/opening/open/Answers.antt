use Rattle.std.proofs.Common.{arith, ap}
use Rattle.lanes.proofs.opening.open.Goals as goal

pub invariant_of-setter-clause-in_hand : goal.invariant_of-setter-clause-in_hand
invariant_of-setter-clause-in_hand g c =
    (rw (c.new-3.ensures.hand, c.new-4.ensures.hand) (omega arith), (λ _. ap (λ m. m.ending) c.new-4.ensures.hand), (λ e. absurd (grind (arith, e))))
