use Rattle.std.proofs.Common.{refl}
use Rattle.std.proofs.lemmas.Result.{IfOk-weaker}
use Rattle.lig_kern.proofs.Runs.{word_set}
use Rattle.lig_kern.proofs.setting.set_word.Goals as goal

pub returns-clause-set : goal.returns-clause-set
returns-clause-set c =
    IfOk-weaker c.set_run_of.result _ _
    (word_set c.args.font.now c.args.word.now c.args.right c.args.steps_left c.args.out.now.items c.set_run_of.new.out.items) (c.set_run_of.ensures.set c.args.font.now refl)
