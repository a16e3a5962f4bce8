use Rattle.std.specs.Prelude.{is_ok}
use Rattle.batch.specs.Events.{Ended}
use Rattle.run_texts.specs.StreamState.{IsStreamOf}
use Rattle.run_texts.specs.declared.streaming.BatchStream.{BatchStream}
use Rattle.run_texts.proofs.StreamLemmas.{gets_within}
use Rattle.run_texts.proofs.streaming.BatchStreamCollector.end.Goals as goal

pub returns-clause-given : goal.returns-clause-given
returns-clause-given g c =
    let after : BatchStream g.row.W.Denot g.row.K.Denot = record { stream = c.end.new.self; of = c.args.self.now.of } in
    gets_within (λ (begun : BatchStream g.row.W.Denot g.row.K.Denot). begun.stream) (IsStreamOf g.W.Write.contents g.K.StreamBeginning.start) c.args.self.now after
    (c.args.lane, Ended c.args.end) (is_ok c.end.result) (c.end.ensures.given g.K.StreamBeginning.start)
