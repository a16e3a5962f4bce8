use Rattle.std.proofs.Common.{sym, ◌∙◌}
use Rattle.encodings.proofs.PartLemmas.{goes_on, left_last, left_next}
use Rattle.encodings.proofs.parts.PartsIterator.next.Goals as goal

pub returns-in_default-clause-steps : goal.returns-in_default-clause-steps
returns-in_default-clause-steps c =
    sym c.self.view_is ∙ left_last c.self.inside.codes c.in_ok-codes.codes c.self.inside.from c.self.inside.gaps.now c.in_ok-codes.was c.in_default.len_below c.self.invariant

pub returns-in_default-clause-goes : goal.returns-in_default-clause-goes
returns-in_default-clause-goes c =
    goes_on _ (λ _. tt) _ _ _ (sym c.self.view_is ∙ left_last c.self.inside.codes c.in_ok-codes.codes c.self.inside.from c.self.inside.gaps.now c.in_ok-codes.was c.in_default.len_below c.self.invariant)

pub split_at-requires : goal.split_at-requires
split_at-requires c =
    (left_next c.self.inside.codes c.in_ok-codes.codes c.self.inside.from c.self.inside.gaps.now c.in_ok-codes.was c.in-len1-up.len_at_least c.self.invariant).within

pub returns-clause-steps : goal.returns-clause-steps
returns-clause-steps c =
    let next = left_next c.self.inside.codes c.in_ok-codes.codes c.self.inside.from c.self.inside.gaps.now c.in_ok-codes.was c.in-len1-up.len_at_least c.self.invariant in
    sym c.self.view_is ∙ next.part c.split_at.result.0 c.split_at.result.1 c.split_at.ensures.front c.split_at.ensures.back

pub returns-clause-goes : goal.returns-clause-goes
returns-clause-goes c =
    let next = left_next c.self.inside.codes c.in_ok-codes.codes c.self.inside.from c.self.inside.gaps.now c.in_ok-codes.was c.in-len1-up.len_at_least c.self.invariant in
    goes_on _ (λ _. tt) _ _ _ (sym c.self.view_is ∙ next.part c.split_at.result.0 c.split_at.result.1 c.split_at.ensures.front c.split_at.ensures.back)
