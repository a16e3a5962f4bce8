use Rattle.std.proofs.Common.{arith, ◌<◌, length, refl}
use Rattle.lanes.specs.Ends.{IsLane}
use Rattle.dealt_lanes.specs.Lanes.{IsNew}
use Rattle.dealt_lanes.proofs.Meeting.{three_weaker}
use Rattle.dealt_lanes.proofs.Opened.{new_feeders, new_makers, new_takers}
use Rattle.dealt_lanes.proofs.opening.open_shared.Goals as goal

pub invariant_of-dealer : goal.invariant_of-dealer
invariant_of-dealer g c =
    let l = c.open_more-2.new.lanes in
    let opened = c.in_ok-open_more-2.ensures in
    let some : 0 < length l.setters.items = let more = opened.count in omega (arith, more) in
    let new = new_feeders (g.M.Making.makes c.args.maker) l.feeders.items l.setters.items l.takers.items some
    (opened.lanes (g.M.Making.makes c.args.maker) refl c.loop-opened.invariant.lanes) in
    record { below = new.0; in_turn = new.2; ends = new.3 }

pub invariant_of-gatherer : goal.invariant_of-gatherer
invariant_of-gatherer g c =
    let l = c.open_more-2.new.lanes in
    let opened = c.in_ok-open_more-2.ensures in
    let some : 0 < length l.setters.items = let more = opened.count in omega (arith, more) in
    let new = new_takers (g.M.Making.makes c.args.maker) l.feeders.items l.setters.items l.takers.items some
    (opened.lanes (g.M.Making.makes c.args.maker) refl c.loop-opened.invariant.lanes) in
    record { below = new.0; gathered = new.2 }

pub returns-clause-lanes : goal.returns-clause-lanes
returns-clause-lanes g c =
    let l = c.open_more-2.new.lanes in
    three_weaker (IsNew {ghosts = g.M.Making} (g.M.Making.makes c.args.maker)) IsLane (λ f s t is. is.0) l.feeders.items l.setters.items l.takers.items
    (c.in_ok-open_more-2.ensures.lanes (g.M.Making.makes c.args.maker) refl c.loop-opened.invariant.lanes)

pub returns-clause-makers : goal.returns-clause-makers
returns-clause-makers g c =
    let l = c.open_more-2.new.lanes in
    new_makers (g.M.Making.makes c.args.maker) l.feeders.items l.setters.items l.takers.items
    (c.in_ok-open_more-2.ensures.lanes (g.M.Making.makes c.args.maker) refl c.loop-opened.invariant.lanes)

pub returns-clause-dealer : goal.returns-clause-dealer
returns-clause-dealer g c =
    let l = c.open_more-2.new.lanes in
    let opened = c.in_ok-open_more-2.ensures in
    let some : 0 < length l.setters.items = let more = opened.count in omega (arith, more) in (
      (new_feeders (g.M.Making.makes c.args.maker) l.feeders.items l.setters.items l.takers.items some
          (opened.lanes (g.M.Making.makes c.args.maker) refl c.loop-opened.invariant.lanes)).1,
      refl,
      refl,
    )

pub returns-clause-gatherer : goal.returns-clause-gatherer
returns-clause-gatherer g c =
    let l = c.open_more-2.new.lanes in
    let opened = c.in_ok-open_more-2.ensures in
    let some : 0 < length l.setters.items = let more = opened.count in omega (arith, more) in (
      (new_takers (g.M.Making.makes c.args.maker) l.feeders.items l.setters.items l.takers.items some
          (opened.lanes (g.M.Making.makes c.args.maker) refl c.loop-opened.invariant.lanes)).1,
      refl,
    )

pub loop-opened-preserved : goal.loop-opened-preserved
loop-opened-preserved g c =
    let more = c.in_ok-open_more.ensures.count in
    record {
      lanes = c.in_ok-open_more.ensures.lanes (g.M.Making.makes c.args.maker) c.in_ok-share.ensures c.loop-opened.invariant.lanes;
      count = omega (arith, more, c.loop-opened.invariant.count);
    }
