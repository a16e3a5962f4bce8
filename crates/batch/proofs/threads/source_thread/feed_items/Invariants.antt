-- the items that were dealt are those that the source returned
use Rattle.std.specs.Prelude.{◌≡◌, []}
use Rattle.dealt_lanes.specs.Dealt.{SameDealer, dealer_end, dealt}
use Rattle.batch.specs.Calls.{HasReturned}
use Rattle.batch.proofs.threads.source_thread.feed_items.Given as goal

abbrev pub invariant-loop : goal.invariant-loop
invariant-loop g l =
    (goal.iterator-loop g).can_next l.iterator' × (goal.iterator-loop g).is_finite l.iterator'
    × SameDealer l.initial.dealer l.dealer
    × (dealer_end l.dealer ≡ dealer_end l.initial.dealer)
    × (dealt l.initial.dealer ≡ [] → HasReturned g.S.ItemSource.next_gives l.initial.source (dealt l.dealer) l.source)
    × (g.S.ItemSource.origin l.source ≡ g.S.ItemSource.origin l.initial.source)
