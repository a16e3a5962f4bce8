use Rattle.lanes.proofs.SettleLemmas.{pipeline_of, settled_of, settled_by_end}
use Rattle.lanes.proofs.settling.settle.Goals as goal

pub returns-in-Some-clause-settled : goal.returns-in-Some-clause-settled
returns-in-Some-clause-settled g c =
    settled_of c.args.feeder c.args.setter c.args.taker c.in-Some.end c.look.ensures.met c.in-Some.ensures.0 c.in-Some.ensures.1

pub returns-in-Some-clause-pipeline : goal.returns-in-Some-clause-pipeline
returns-in-Some-clause-pipeline g c = pipeline_of c.args.feeder c.args.setter c.args.taker c.look.ensures.met

pub returns-in-None-clause-pipeline : goal.returns-in-None-clause-pipeline
returns-in-None-clause-pipeline g c = pipeline_of c.args.feeder c.args.setter c.args.taker c.look.ensures.met

pub returns-in-Some-clause-ended : goal.returns-in-Some-clause-ended
returns-in-Some-clause-ended g c = λ end. settled_by_end c.args.feeder c.args.setter c.args.taker end c.look.ensures.met

pub returns-in-None-clause-ended : goal.returns-in-None-clause-ended
returns-in-None-clause-ended g c = λ end. settled_by_end c.args.feeder c.args.setter c.args.taker end c.look.ensures.met
