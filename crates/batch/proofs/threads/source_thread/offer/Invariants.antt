-- no item was dealt yet
use Rattle.std.specs.Prelude.{◌≡◌}
use Rattle.dealt_lanes.specs.Dealt.{SameDealer, dealer_end, dealt}
use Rattle.batch.proofs.threads.source_thread.offer.Given as goal

abbrev pub invariant-loop : goal.invariant-loop
invariant-loop g l =
    (goal.iterator-loop g).can_next l.iterator' × (goal.iterator-loop g).is_finite l.iterator'
    × SameDealer l.initial.dealer l.dealer
    × (dealer_end l.dealer ≡ dealer_end l.initial.dealer)
    × (dealt l.dealer ≡ dealt l.initial.dealer)
    × (l.item ≡ l.initial.item)
