use Rattle.std.proofs.Common.{arith}
use Rattle.std.proofs.lemmas.Grind.{common_steps}
use Rattle.run_texts.proofs.StreamEvents.{counts_more}
use Rattle.run_texts.proofs.stream.no_answers.Goals as goal

pub loop-preserved : goal.loop-preserved
loop-preserved c = (grind (arith, common_steps), rw c.in_ok-push.ensures.items (counts_more 0 c.loop.counts.items c.new.result c.new.ensures.records c.new.ensures.refused c.loop.invariant.1))
