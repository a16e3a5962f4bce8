use Rattle.std.proofs.Common.{rules, refl, ◌∙◌}
use Rattle.batch.proofs.SameEnds.{dealer_refl, dealer_trans}
use Rattle.batch.proofs.threads.source_thread.offer.Goals as goal

pub loop-init : goal.loop-init
loop-init g c = (search rules, search rules, dealer_refl c.args.dealer.now, refl, refl, refl)

pub returns-in-Ok-clause-lane : goal.returns-in-Ok-clause-lane
returns-in-Ok-clause-lane g c = dealer_trans c.args.dealer.now c.loop.dealer c.offer.new.self c.loop.invariant.2 c.offer.ensures.lanes

pub returns-in-Err-Closed-clause-lane : goal.returns-in-Err-Closed-clause-lane
returns-in-Err-Closed-clause-lane g c = dealer_trans c.args.dealer.now c.loop.dealer c.offer.new.self c.loop.invariant.2 c.offer.ensures.lanes

pub returns-then-is_stopped-clause-lane : goal.returns-then-is_stopped-clause-lane
returns-then-is_stopped-clause-lane g c = dealer_trans c.args.dealer.now c.loop.dealer c.offer.new.self c.loop.invariant.2 c.offer.ensures.lanes

pub loop-preserved : goal.loop-preserved
loop-preserved g c = (
  search rules,
  search rules,
  dealer_trans c.args.dealer.now c.loop.dealer c.offer.new.self c.loop.invariant.2 c.offer.ensures.lanes,
  c.offer.ensures.end ∙ c.loop.invariant.3,
  search rules,
  (rw c.in-Err-NoRoom.field-0-is at c.in-Err-NoRoom.ensures.refused).1.1 ∙ c.loop.invariant.5,
)
