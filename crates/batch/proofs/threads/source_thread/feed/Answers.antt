use Rattle.std.proofs.Common.{true, sym, subst, ◌∙◌}
use Rattle.dealt_lanes.specs.Dealt.{dealer_end, dealt}
use Rattle.batch.specs.Calls.{IsFedFrom}
use Rattle.batch.specs.Given.{HandsBack}
use Rattle.batch.proofs.GivenLemmas.{fed_closed, fed_open}
use Rattle.batch.proofs.SameEnds.{dealer_trans}
use Rattle.batch.proofs.threads.source_thread.feed.Goals.{in-Some, in_default}
use Rattle.batch.proofs.threads.source_thread.feed.Goals as goal

pub returns : goal.returns
returns g c =
    let gives = g.S.ItemSource.next_gives in
    let start = c.args.feeding in let source = c.feed_items.new.source in
    let P : _ → Type 0 = λ f. HandsBack gives g.S.ItemSource.origin start (record { source = source; dealer = f }) in
    elim c.match-feed_items.branch [
      | in-Some w ↦ subst P (sym w.dealer-is) (record {
        same = dealer_trans start.dealer c.feed_items.new.dealer w.close.new.dealer c.feed_items.ensures.lane w.close.ensures.lane;
        all_fed = λ none no_end.
            subst (λ items. IsFedFrom gives (dealer_end w.close.new.dealer) items start.source source) (sym w.close.ensures.fed)
            (fed_closed gives true (dealer_end c.feed_items.new.dealer) (dealer_end w.close.new.dealer) w.in-Some.end (dealt c.feed_items.new.dealer)
            start.source source (c.feed_items.ensures.open ∙ no_end) w.close.ensures.end
            (subst (λ e. IsFedFrom gives e (dealt c.feed_items.new.dealer) start.source source) w.in-Some.is (c.feed_items.ensures.fed none)));
        own_source = c.feed_items.ensures.origin;
      })
      | in_default w ↦ subst P (sym w.dealer-is) (record {
        same = c.feed_items.ensures.lane;
        all_fed = λ none no_end.
            fed_open gives c.feed_items.result (dealer_end c.feed_items.new.dealer) (dealt c.feed_items.new.dealer)
            start.source source (c.feed_items.ensures.open ∙ no_end) (c.feed_items.ensures.fed none);
        own_source = c.feed_items.ensures.origin;
      })
    ]
