use Rattle.std.proofs.Common.{rules, ap, sym, subst, ◌∙◌, ◌<◌, ◌∷◌, length}
use Rattle.run_plan.specs.Held.{held, AreFull}
use Rattle.run_plan.proofs.HeldLemmas.{first_out}
use Rattle.run_plan.proofs.slots.InlineSlotsSlots.take_first.Goals as goal

pub invariant_of-self : goal.invariant_of-self
invariant_of-self g c =
    let slots = c.self.inside.slots.items in
    let some : 0 < length slots = search rules in
    let out = first_out slots c.remove.result some c.self.invariant.0 c.remove.ensures.value in
    (subst AreFull (sym c.remove.ensures.items) out.0, c.remove.ensures.capacity ∙ c.self.invariant.1)

pub returns : goal.returns
returns g c =
    let slots = c.self.inside.slots.items in
    let some : 0 < length slots = search rules in
    let out = (first_out slots c.remove.result some c.self.invariant.0 c.remove.ensures.value).1 in
    rw out.1 (sym c.self.view_is ∙ out.2 ∙ ap (λ l. out.0 ∷ held l) (sym c.remove.ensures.items))
