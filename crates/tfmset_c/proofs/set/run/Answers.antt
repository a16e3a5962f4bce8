use Rattle.tfmset_c.proofs.TextLemmas.{answered, outcomes_are}
use Rattle.tfmset_c.proofs.set.run.Goals as goal

pub returns-in-Ok-clause-font : goal.returns-in-Ok-clause-font
returns-in-Ok-clause-font c = answered _ _ _ c.in-Some.ensures.1 c.in-Ok.ensures.ok.accepted c.tell.ensures.answers

pub returns-in-Ok-clause-told : goal.returns-in-Ok-clause-told
returns-in-Ok-clause-told c =
    rw (outcomes_are c.args.call.font.now c.args.call.text.now c.args.call.options.now _ _ c.in-Some.ensures.0 c.in-Ok.ensures.ok) at
    (c.tell.ensures.told _ _ _ _ (rw c.scratch_for-kept.ensures.wanted at c.fill-filled.ensures))
