use Rattle.dealt_lanes.proofs.Together.{gathered_pipeline, gathered_whole}
use Rattle.dealt_lanes.proofs.settling.settle_lanes.Goals as goal

pub returns : goal.returns
returns g c = λ makes make.
    let d = c.args.dealer in let t = c.args.gatherer in
    record {
      results = gathered_pipeline d.feeders.items c.args.setters.items t.takers.items d.turn t.turn makes d.below d.in_turn t.gathered.1 c.settle_each.ensures make;
      whole = λ end is going.
          gathered_whole d.feeders.items c.args.setters.items t.takers.items d.turn t.turn makes d.end t.end end d.below d.in_turn d.ends t.gathered
          c.settle_each.ensures make is going;
    }
