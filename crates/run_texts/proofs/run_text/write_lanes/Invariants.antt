-- the lanes so far were written
use Rattle.std.proofs.Common.{flat_map}
use Rattle.std.specs.Io.KnownBytes.{Appends}
use Rattle.run_texts.proofs.run_text.write_lanes.Given as goal

abbrev pub invariant-loop-lane : goal.invariant-loop-lane
invariant-loop-lane g l = Appends (g.W.Write.contents l.fn.out) (g.W.Write.contents l.out) (flat_map (λ lane. lane.text) l.yielded)
