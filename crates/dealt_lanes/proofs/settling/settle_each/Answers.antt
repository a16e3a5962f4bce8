use Rattle.std.proofs.Common.{rules, ◌≡◌, [], length, ap}
use Rattle.lanes.specs.Ends.{IsLane}
use Rattle.dealt_lanes.specs.Lanes.{IsMet}
use Rattle.dealt_lanes.proofs.Meeting.{three_append, three_last, three_none}
use Rattle.dealt_lanes.proofs.settling.settle_each.Goals as goal

pub settle_one-requires : goal.settle_one-requires
settle_one-requires g c =
    (three_last IsLane c.lanes.feeders.items c.pop.new.self.items c.lanes.setters.items c.pop-in-Some.new.self.items c.lanes.takers.items c.pop-in-Some-2.new.self.items
    c.in-Some.feeder c.in-Some-pop.setter c.in-Some-pop-2.taker c.in-Some.ensures.items c.in-Some-pop.ensures.items c.in-Some-pop-2.ensures.items
    c.lanes.invariant.lanes).1

pub lanes-preserved : goal.lanes-preserved
lanes-preserved g c = record {
  lanes = (three_last IsLane c.lanes.feeders.items c.pop.new.self.items c.lanes.setters.items c.pop-in-Some.new.self.items c.lanes.takers.items c.pop-in-Some-2.new.self.items
      c.in-Some.feeder c.in-Some-pop.setter c.in-Some-pop-2.taker c.in-Some.ensures.items c.in-Some-pop.ensures.items c.in-Some-pop-2.ensures.items
      c.lanes.invariant.lanes).0;
  met = λ rest.
      c.lanes.invariant.met
      (three_append IsMet c.lanes.feeders.items c.pop.new.self.items c.lanes.setters.items c.pop-in-Some.new.self.items c.lanes.takers.items c.pop-in-Some-2.new.self.items
      c.in-Some.feeder c.in-Some-pop.setter c.in-Some-pop-2.taker c.in-Some.ensures.items c.in-Some-pop.ensures.items c.in-Some-pop-2.ensures.items
      rest c.settle_one.ensures);
}

pub returns : goal.returns
returns g c =
    let none : c.lanes.feeders.items ≡ [] = search rules in
    c.lanes.invariant.met
    (three_none IsLane IsMet c.lanes.feeders.items c.lanes.setters.items c.lanes.takers.items (ap length none) c.lanes.invariant.lanes)
