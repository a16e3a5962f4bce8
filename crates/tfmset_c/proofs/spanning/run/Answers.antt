use Rattle.std.proofs.Common.{arith, refl}
use Rattle.tfmset_c.proofs.FontLemmas.{declined}
use Rattle.tfmset_c.proofs.TextLemmas.{answered, neither}
use Rattle.tfmset_c.proofs.spanning.run.Goals as goal

pub returns-in-Ok-clause-font : goal.returns-in-Ok-clause-font
returns-in-Ok-clause-font c =
    let opened = rw c.in-Some.ensures.0.size at c.in-Ok.ensures.ok in
    answered _ _ _ (neither c.in-Some.ensures.1 opened.1.0) opened.0 c.tell.ensures.answers

pub returns-in-Ok-clause-told : goal.returns-in-Ok-clause-told
returns-in-Ok-clause-told c = λ value given.
    rw (c.in-Some.ensures.0.limit, c.in-Some.ensures.0.call_limit) at
    (c.tell.ensures.told _ _ _ _ (c.fill_spans-filled.ensures value ((rw c.in-Some.ensures.0.size at c.in-Ok.ensures.ok).1.1 value given)))

pub returns-clause-font : goal.returns-clause-font
returns-clause-font c = declined c.in-Some.ensures.1 (rw c.in-Some.ensures.0.size at c.in-Err.ensures.code).0

pub returns-clause-told : goal.returns-clause-told
returns-clause-told c = λ value given.
    let one = c.in-Err.ensures.code.1 in
    record {
      counted = λ told. absurd (grind (arith, one, told));
      room = λ done. absurd (grind (arith, one, done));
      no_room = λ three. absurd (grind (arith, one, three));
      written = λ done. absurd (grind (arith, one, done));
      kept = λ _ _. refl;
      untouched = λ _. (refl, refl);
    }
