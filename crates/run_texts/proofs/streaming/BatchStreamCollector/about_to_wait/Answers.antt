use Rattle.run_texts.proofs.streaming.BatchStreamCollector.about_to_wait.Goals as goal

pub returns-clause-given : goal.returns-clause-given
returns-clause-given g c = c.flush.ensures.given g.K.StreamBeginning.start
