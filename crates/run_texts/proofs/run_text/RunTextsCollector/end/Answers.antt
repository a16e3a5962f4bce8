use Rattle.std.proofs.Common.{rules}
use Rattle.run_texts.specs.declared.run_text.RunTexts.{RunTexts}
use Rattle.run_texts.proofs.LaneTextLemmas.{gets_end}
use Rattle.run_texts.proofs.run_text.RunTextsCollector.end.Goals as goal

pub returns-clause-given : goal.returns-clause-given
returns-clause-given g c =
    gets_end (λ (texts : RunTexts g.row.K.Denot). texts.version) (λ texts. texts.lanes.items) g.K.BatchShape.version g.K.BatchShape.lanes c.args.self.now _
    c.args.lane c.args.end c.end.result c.index_mut.result.now c.end.new.self
    (search rules) (search rules) (search rules) (search rules) (search rules) (search rules) c.end.ensures.few
