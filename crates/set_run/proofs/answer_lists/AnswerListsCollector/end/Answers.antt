use Rattle.set_run.proofs.KeepLemmas.{keeps_ended}
use Rattle.set_run.proofs.answer_lists.AnswerListsCollector.end.Goals as goal

pub returns-clause-given : goal.returns-clause-given
returns-clause-given c = λ events has. keeps_ended c.args.self.now.lists.items events c.args._lane c.args._end has
