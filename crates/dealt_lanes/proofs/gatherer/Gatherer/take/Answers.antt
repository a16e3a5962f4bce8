use Rattle.std.proofs.Common.{rules, arith, ◌≡◌, Some, refl, ap, length}
use Rattle.std.proofs.lemmas.List.Elements.{length_all_zip}
use Rattle.lanes.specs.Messages.{first_end}
use Rattle.lanes.specs.Ends.{SameTaker}
use Rattle.dealt_lanes.proofs.Endpoints.{answer_next, end_next, nothing_next}
use Rattle.dealt_lanes.proofs.SameEnds.{taker_refl}
use Rattle.dealt_lanes.proofs.Zips.{zip_refl}
use Rattle.dealt_lanes.proofs.gatherer.Gatherer.take.Goals as goal

pub returns-in-Some-clause-lanes : goal.returns-in-Some-clause-lanes
returns-in-Some-clause-lanes g c = zip_refl SameTaker taker_refl c.args.self.now.takers.items

pub invariant_of-self : goal.invariant_of-self
invariant_of-self g c =
    let old = c.args.self.now in let new = c.take_at.new.takers.items in
    let long : length old.takers.items ≡ length new = length_all_zip SameTaker old.takers.items new c.take_at.ensures.lanes in
    record {
      below = omega (arith, long, old.below);
      gathered = (nothing_next g.O.Made.is_right old.takers.items new old.turn old.end old.below c.in_default.is c.in-Nothing.ensures.took old.gathered).1;
    }

pub returns-in-Nothing-clause-took : goal.returns-in-Nothing-clause-took
returns-in-Nothing-clause-took g c =
    let old = c.args.self.now in let new = c.take_at.new.takers.items in (
      c.in_default.is,
      c.in_default.is,
      (nothing_next g.O.Made.is_right old.takers.items new old.turn old.end old.below c.in_default.is c.in-Nothing.ensures.took old.gathered).0,
    )

pub invariant_of-self-in-Answer : goal.invariant_of-self-in-Answer
invariant_of-self-in-Answer g c =
    let old = c.args.self.now in let new = c.take_at.new.takers.items in
    let many : c.len.result ≡ length new = search rules in
    record {
      below = search rules;
      gathered = (answer_next g.O.Made.is_right old.takers.items new c.in-Answer.answer old.turn c.next_turn-self.result c.len.result old.end old.below
          many c.next_turn-self.ensures.below c.in_default.is c.in-Answer.ensures.took old.gathered c.next_turn-self.ensures.value).2;
    }

pub returns-in-Answer-clause-took : goal.returns-in-Answer-clause-took
returns-in-Answer-clause-took g c =
    let old = c.args.self.now in let new = c.take_at.new.takers.items in
    let many : c.len.result ≡ length new = search rules in
    let next = answer_next g.O.Made.is_right old.takers.items new c.in-Answer.answer old.turn c.next_turn-self.result c.len.result old.end old.below
    many c.next_turn-self.ensures.below c.in_default.is c.in-Answer.ensures.took old.gathered c.next_turn-self.ensures.value in
    (next.0, c.in_default.is, c.in_default.is, next.1)

pub invariant_of-self-in-End : goal.invariant_of-self-in-End
invariant_of-self-in-End g c =
    let old = c.args.self.now in let new = c.take_at.new.takers.items in
    let long : length old.takers.items ≡ length new = length_all_zip SameTaker old.takers.items new c.take_at.ensures.lanes in
    record {
      below = omega (arith, long, old.below);
      gathered = (end_next g.O.Made.is_right old.takers.items new c.in-End.end old.turn old.below c.in-End.ensures.took old.gathered.1).1;
    }

pub returns-in-End-clause-took : goal.returns-in-End-clause-took
returns-in-End-clause-took g c =
    let old = c.args.self.now in let new = c.take_at.new.takers.items in (
      ap (λ e. first_end e (Some c.in-End.end)) c.in_default.is,
      refl,
      (end_next g.O.Made.is_right old.takers.items new c.in-End.end old.turn old.below c.in-End.ensures.took old.gathered.1).0,
    )
