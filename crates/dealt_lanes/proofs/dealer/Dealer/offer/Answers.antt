use Rattle.std.proofs.Common.{rules, arith, ◌≡◌, refl, subst, sym, ap, length}
use Rattle.std.proofs.lemmas.List.Elements.{length_all_zip}
use Rattle.lanes.specs.Ends.{SameFeeder}
use Rattle.dealt_lanes.specs.InTurn.{AreInTurn, in_turn}
use Rattle.dealt_lanes.specs.Feeders.{HaveEnd, IsReturned}
use Rattle.dealt_lanes.proofs.Endpoints.{fed_next, none_of}
use Rattle.dealt_lanes.proofs.SameEnds.{feeder_refl}
use Rattle.dealt_lanes.proofs.Zips.{zip_refl}
use Rattle.dealt_lanes.proofs.dealer.Dealer.offer.Goals as goal

pub returns-then-is_some-clause-lanes : goal.returns-then-is_some-clause-lanes
returns-then-is_some-clause-lanes g c = zip_refl SameFeeder feeder_refl c.args.self.now.feeders.items

pub offer_at-requires : goal.offer_at-requires
offer_at-requires g c =
    let d = c.args.self.now in
    record {
      lane = search rules;
      ends = subst (λ e. HaveEnd e d.feeders.items) (none_of d.end c.is_some.result c.is_some.ensures c.if-is_some.false) d.ends;
    }

pub invariant_of-self : goal.invariant_of-self
invariant_of-self g c =
    let d = c.args.self.now in let new = c.offer_at.new.feeders.items in
    let many : c.len.result ≡ length new = search rules in
    let next = fed_next d.feeders.items new c.args.item d.turn c.next_turn-self.result c.len.result d.below many
    c.in-Ok.ensures.fed d.in_turn c.next_turn-self.ensures.value in
    record {
      below = search rules;
      in_turn = next.1;
      ends = subst (λ e. HaveEnd e new) (sym (none_of d.end c.is_some.result c.is_some.ensures c.if-is_some.false)) c.offer_at.ensures.ends;
    }

pub invariant_of-self-in-Err-1 : goal.invariant_of-self-in-Err-1
invariant_of-self-in-Err-1 g c =
    let d = c.args.self.now in let new = c.offer_at.new.feeders.items in
    let long : length d.feeders.items ≡ length new = length_all_zip SameFeeder d.feeders.items new c.offer_at.ensures.lanes in
    record {
      below = omega (arith, long, d.below);
      in_turn = subst (λ l. AreInTurn l d.turn) (sym c.in-Err.ensures.refused.1) d.in_turn;
      ends = subst (λ e. HaveEnd e new) (sym (none_of d.end c.is_some.result c.is_some.ensures c.if-is_some.false)) c.offer_at.ensures.ends;
    }

pub returns-in-Ok-clause-dealt : goal.returns-in-Ok-clause-dealt
returns-in-Ok-clause-dealt g c =
    let d = c.args.self.now in
    let many : c.len.result ≡ length c.offer_at.new.feeders.items = search rules in
    let next = fed_next d.feeders.items c.offer_at.new.feeders.items c.args.item d.turn c.next_turn-self.result c.len.result d.below many
    c.in-Ok.ensures.fed d.in_turn c.next_turn-self.ensures.value in
    (none_of d.end c.is_some.result c.is_some.ensures c.if-is_some.false, next.0)

pub returns-in-Err-clause-refused : goal.returns-in-Err-clause-refused
returns-in-Err-clause-refused g c =
    let refused = c.in-Err.ensures.refused in (
      (ap in_turn refused.1, refl, refl),
      subst (λ e. IsReturned e c.args.item c.in-Err.fault)
          (sym (none_of c.args.self.now.end c.is_some.result c.is_some.ensures c.if-is_some.false)) refused.0,
    )
