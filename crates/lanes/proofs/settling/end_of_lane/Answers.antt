use Rattle.std.proofs.Common.{sym, ◌∙◌}
use Rattle.lanes.proofs.SettleLemmas.{over_ending}
use Rattle.lanes.proofs.settling.end_of_lane.Goals as goal

pub returns : goal.returns
returns g c =
    over_ending c.args.feeder.now c.args.setter.now c.args.taker.now c.ending.result (sym c.is_closed.ensures ∙ c.if-not-is_closed.false)
    (sym c.is_done.ensures ∙ c.if-not-is_done.false) c.if-not-taker.false (c.ending.ensures ∙ c.args.taker.now.receiver.told)
