-- the blocks so far were written
use Rattle.std.specs.Io.KnownBytes.{Appends}
use Rattle.std.specs.List.{concat}
use Rattle.run_texts.proofs.lane_text.write_buffers.Given as goal

abbrev pub invariant-loop-buffer : goal.invariant-loop-buffer
invariant-loop-buffer g l = Appends (g.W.Write.contents l.fn.out) (g.W.Write.contents l.out) (concat l.yielded)
