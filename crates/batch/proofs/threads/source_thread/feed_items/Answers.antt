use Rattle.std.proofs.Common.{rules, refl, sym, subst, ◌∙◌}
use Rattle.std.specs.Prelude.{Some, None, Ok}
use Rattle.dealt_lanes.specs.Dealt.{dealt}
use Rattle.batch.specs.Calls.{HasReturned, IsFedFrom}
use Rattle.batch.proofs.GivenLemmas.{fed_but_one, fed_complete, fed_failed, fed_so_far, returned_more}
use Rattle.batch.proofs.SameEnds.{dealer_refl, dealer_trans}
use Rattle.batch.proofs.threads.source_thread.feed_items.Goals as goal

pub loop-init : goal.loop-init
loop-init g c = (search rules, search rules, dealer_refl c.args.dealer.now, refl, search rules, refl)

pub loop-preserved : goal.loop-preserved
loop-preserved g c =
    let gives = g.S.ItemSource.next_gives in let before = c.args.source.now in
    let given = dealt c.loop.dealer in
    let one : gives c.loop.source (Ok (Some c.in-Ok-Some.item)) c.next_item.new.self = rw c.in-Ok-Some.field-0-is at c.in-Ok-Some.ensures.gives in (
      search rules,
      search rules,
      dealer_trans c.args.dealer.now c.loop.dealer c.offer.new.dealer c.loop.invariant.2 c.offer.ensures.lane,
      c.offer.ensures.end ∙ c.loop.invariant.3,
      (λ none. subst (λ items. HasReturned gives before items c.next_item.new.self) (sym c.if-not-offer.ensures.fed)
          (returned_more gives before given c.loop.source c.in-Ok-Some.item c.next_item.new.self (c.loop.invariant.4 none) one)),
      c.next_item.ensures.origin ∙ c.loop.invariant.5,
    )

pub returns-then-is_stopped-clause-fed : goal.returns-then-is_stopped-clause-fed
returns-then-is_stopped-clause-fed g c = λ none.
    fed_so_far g.S.ItemSource.next_gives c.args.source.now (dealt c.loop.dealer) c.loop.source (c.loop.invariant.4 none)

pub returns-then-not-offer-clause-lane : goal.returns-then-not-offer-clause-lane
returns-then-not-offer-clause-lane g c = dealer_trans c.args.dealer.now c.loop.dealer c.offer.new.dealer c.loop.invariant.2 c.offer.ensures.lane

pub returns-then-not-offer-clause-fed : goal.returns-then-not-offer-clause-fed
returns-then-not-offer-clause-fed g c = λ none.
    let gives = g.S.ItemSource.next_gives in let before = c.args.source.now in
    let one : gives c.loop.source (Ok (Some c.in-Ok-Some.item)) c.next_item.new.self = rw c.in-Ok-Some.field-0-is at c.in-Ok-Some.ensures.gives in
    subst (λ items. IsFedFrom gives None items before c.next_item.new.self) (sym c.if-not-offer.ensures.fed)
    (fed_but_one gives before (dealt c.loop.dealer) c.loop.source c.in-Ok-Some.item c.next_item.new.self (c.loop.invariant.4 none) one)

pub returns-in-Ok-None-clause-fed : goal.returns-in-Ok-None-clause-fed
returns-in-Ok-None-clause-fed g c = λ none.
    let gives = g.S.ItemSource.next_gives in
    let one : gives c.loop.source (Ok None) c.next_item.new.self = rw c.in-Ok-None.field-0-is at c.in-Ok-None.ensures.gives in
    fed_complete gives c.args.source.now (dealt c.loop.dealer) c.loop.source c.next_item.new.self (c.loop.invariant.4 none) one

pub returns-in-Err-clause-fed : goal.returns-in-Err-clause-fed
returns-in-Err-clause-fed g c = λ none.
    fed_failed g.S.ItemSource.next_gives c.args.source.now (dealt c.loop.dealer) c.loop.source c.next_item.new.self c.in-Err.fault
    (c.loop.invariant.4 none) c.in-Err.ensures.gives
