use Rattle.std.proofs.Common.{rules}
use Rattle.run_texts.proofs.RunTextLemmas.{appends_block, appends_nothing}
use Rattle.run_texts.proofs.lane_text.write_buffers.Goals as goal

pub loop-buffer-init : goal.loop-buffer-init
loop-buffer-init g c = appends_nothing _

pub loop-buffer-preserved : goal.loop-buffer-preserved
loop-buffer-preserved g c =
    appends_block (g.W.Write.contents c.args.out.now) (g.W.Write.contents c.loop-buffer.out) (g.W.Write.contents c.write_text.new.out)
    c.loop-buffer.yielded c.in-Some.buffer c.loop-buffer.invariant (search rules)
