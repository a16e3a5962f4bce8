use Rattle.std.proofs.Common.{rules}
use Rattle.set_run.proofs.KeepLemmas.{keeps_more}
use Rattle.set_run.proofs.answer_lists.AnswerListsCollector.take.Goals as goal

pub returns-clause-given : goal.returns-clause-given
returns-clause-given c = λ events has.
    keeps_more c.args.self.now.lists.items events c.args.lane c.args.answer c.index_mut.result.now c.push.new.self c.requires.lane c.index_mut.ensures.value
    (search rules) has
