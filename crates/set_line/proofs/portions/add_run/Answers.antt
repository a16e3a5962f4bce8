use Rattle.std.proofs.Common.{arith}
use Rattle.set_line.proofs.OnwardLemmas.{run_empty, run_few, run_set, run_refused}
use Rattle.set_line.proofs.portions.add_run.Goals as goal

pub returns-then-is_empty-clause-reached : goal.returns-then-is_empty-clause-reached
returns-then-is_empty-clause-reached c = run_empty c.args.terms.now.font c.args.terms.now.limit _ c.args.run.now c.args.right (grind arith)

pub returns-in-Ok-clause-reached : goal.returns-in-Ok-clause-reached
returns-in-Ok-clause-reached c =
    run_set c.args.terms.now.font c.args.terms.now.limit c.args.used c.in-Ok.steps c.args.items.now.items c.set_word.new.out.items c.args.run.now c.args.right
    (grind arith) c.requires (rw c.font.ensures at (rw c.limit.ensures at (rw c.get-limit.ensures.value at c.in-Ok.ensures.set)))

pub returns-in-Ok-clause-few : goal.returns-in-Ok-clause-few
returns-in-Ok-clause-few c =
    run_few c.args.used c.in-Ok.steps c.args.items.now.items c.set_word.new.out.items c.args.terms.now.font c.args.run.now c.args.right _
    (grind arith) (rw c.font.ensures at c.in-Ok.ensures.set)

pub returns-in-Err-TooManySteps-clause-reached : goal.returns-in-Err-TooManySteps-clause-reached
returns-in-Err-TooManySteps-clause-reached c =
    run_refused c.args.terms.now.font c.args.terms.now.limit c.args.used c.args.items.now.items c.args.run.now c.args.right
    (grind arith) c.requires (rw c.font.ensures at (rw c.limit.ensures at (rw c.get-limit.ensures.value at c.set_word.ensures.too_many (grind arith))))
