use Rattle.std.proofs.Common.{arith, ◌≡◌, length}
use Rattle.std.proofs.lemmas.List.Elements.{length_all_zip}
use Rattle.lanes.specs.Ends.{SameTaker}
use Rattle.dealt_lanes.specs.Takers.{IsDrained}
use Rattle.dealt_lanes.proofs.Endpoints.{drained_gathered, drained_same, some_of}
use Rattle.dealt_lanes.proofs.SameEnds.{taker_refl}
use Rattle.dealt_lanes.proofs.Zips.{zip_refl}
use Rattle.dealt_lanes.proofs.gatherer.Gatherer.drop_rest.Goals as goal

pub returns-then-is_none-clause-lanes : goal.returns-then-is_none-clause-lanes
returns-then-is_none-clause-lanes g c = zip_refl SameTaker taker_refl c.args.self.now.takers.items

pub invariant_of-self : goal.invariant_of-self
invariant_of-self g c =
    let old = c.args.self.now in let new = c.drop_all.new.takers.items in
    let long : length old.takers.items ≡ length new = length_all_zip IsDrained old.takers.items new c.drop_all.ensures in
    record {
      below = omega (arith, long, old.below);
      gathered = (drained_gathered old.takers.items new old.turn old.end old.below (some_of old.end c.is_none.result c.is_none.ensures c.if-is_none.false)
          c.drop_all.ensures old.gathered).1;
    }

pub returns-clause-lanes : goal.returns-clause-lanes
returns-clause-lanes g c =
    let old = c.args.self.now.takers.items in let new = c.drop_all.new.takers.items in
    drained_same old new c.drop_all.ensures

pub returns-clause-gathered : goal.returns-clause-gathered
returns-clause-gathered g c =
    let old = c.args.self.now in let new = c.drop_all.new.takers.items in
    (drained_gathered old.takers.items new old.turn old.end old.below (some_of old.end c.is_none.result c.is_none.ensures c.if-is_none.false)
    c.drop_all.ensures old.gathered).0
