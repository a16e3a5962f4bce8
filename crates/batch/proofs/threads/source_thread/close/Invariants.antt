-- the dealer is of the same lanes, with the same items, and its end is the first one
use Rattle.std.specs.Prelude.{◌≡◌, Some}
use Rattle.lanes.specs.Messages.{first_end}
use Rattle.dealt_lanes.specs.Dealt.{SameDealer, dealer_end, dealt}
use Rattle.batch.proofs.threads.source_thread.close.Given as goal

abbrev pub invariant-loop : goal.invariant-loop
invariant-loop g l =
    (goal.iterator-loop g).can_next l.iterator' × (goal.iterator-loop g).is_finite l.iterator'
    × SameDealer l.initial.dealer l.dealer
    × (first_end (dealer_end l.dealer) (Some l.end) ≡ first_end (dealer_end l.initial.dealer) (Some l.end))
    × (dealt l.dealer ≡ dealt l.initial.dealer)
