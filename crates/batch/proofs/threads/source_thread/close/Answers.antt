use Rattle.std.proofs.Common.{rules, Some, refl, ap, ◌∙◌}
use Rattle.lanes.specs.Messages.{first_end}
use Rattle.dealt_lanes.specs.Dealt.{dealer_end}
use Rattle.batch.proofs.SameEnds.{dealer_refl, dealer_trans, first_again}
use Rattle.batch.proofs.threads.source_thread.close.Goals as goal

pub loop-init : goal.loop-init
loop-init g c = (search rules, search rules, dealer_refl c.args.dealer.now, refl, refl)

pub returns-then-close-clause-lane : goal.returns-then-close-clause-lane
returns-then-close-clause-lane g c = dealer_trans c.args.dealer.now c.loop.dealer c.close.new.self c.loop.invariant.2 c.close.ensures.lanes

pub returns-then-close-clause-end : goal.returns-then-close-clause-end
returns-then-close-clause-end g c = c.close.ensures.end ∙ c.loop.invariant.3

pub returns-then-is_stopped-clause-lane : goal.returns-then-is_stopped-clause-lane
returns-then-is_stopped-clause-lane g c = dealer_trans c.args.dealer.now c.loop.dealer c.close.new.self c.loop.invariant.2 c.close.ensures.lanes

pub returns-then-is_stopped-clause-end : goal.returns-then-is_stopped-clause-end
returns-then-is_stopped-clause-end g c = c.close.ensures.end ∙ c.loop.invariant.3

pub loop-preserved : goal.loop-preserved
loop-preserved g c = (
  search rules,
  search rules,
  dealer_trans c.args.dealer.now c.loop.dealer c.close.new.self c.loop.invariant.2 c.close.ensures.lanes,
  ap (λ e. first_end e (Some c.args.end)) c.close.ensures.end ∙ first_again (dealer_end c.loop.dealer) c.args.end ∙ c.loop.invariant.3,
  c.close.ensures.dealt ∙ c.loop.invariant.4,
)
