use Rattle.std.proofs.Common.{ap, ◌∙◌}
use Rattle.lanes.specs.Turns.{fresh}
use Rattle.dealt_lanes.specs.Lanes.{IsNew}
use Rattle.dealt_lanes.proofs.Meeting.{three_append}
use Rattle.dealt_lanes.proofs.opening.open_more.Goals as goal

pub returns-clause-lanes : goal.returns-clause-lanes
returns-clause-lanes g c = λ makes same all.
    let old = c.args.lanes.now in let new = c.push.new.lanes in
    let e = c.in_ok-ends.ensures in let ends = c.in_ok-ends.ends in
    let pushed = c.in_ok-push.ensures in
    three_append (IsNew makes) new.feeders.items old.feeders.items new.setters.items old.setters.items new.takers.items old.takers.items
    ends.0 ends.1 ends.2 pushed.0 pushed.1 pushed.2 all (e.lane, (e.feeder.0, e.feeder.2), e.setter ∙ ap fresh same, ap (λ x. x.taken) e.taker)
