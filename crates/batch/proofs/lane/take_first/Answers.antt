use Rattle.batch.proofs.LaneLemmas.{first_taken}
use Rattle.batch.proofs.lane.take_first.Goals as goal

pub returns : goal.returns
returns g c = first_taken c.args.takers.now.items c.remove.new.self.items c.remove.result c.requires c.remove.ensures.value c.remove.ensures.items
