use Rattle.std.proofs.Common.{subst}
use Rattle.std.specs.Prelude.{All, IsSome, IsTrue}
use Rattle.batch.specs.Collecting.{TellsLanes}
use Rattle.batch.proofs.TakerLemmas.{ok_none}
use Rattle.batch.proofs.collecting.collector_thread.collect.Goals as goal

pub returns-clause-told : goal.returns-clause-told
returns-clause-told g c =
    subst (λ ok. TellsLanes g.C.Collector.given c.args.lanes.items c.args.collector ok c.collect_all.new.lanes.items c.collect_all.new.collector)
    (ok_none c.collect_all.result c.err-refusal.result c.err-refusal.ensures.value) c.collect_all.ensures.told

pub returns-clause-whole : goal.returns-clause-whole
returns-clause-whole g c =
    subst (λ ok. IsTrue ok → All (λ lane. IsSome lane.end) c.collect_all.new.lanes.items)
    (ok_none c.collect_all.result c.err-refusal.result c.err-refusal.ensures.value) c.collect_all.ensures.whole
