-- the first bytes are written
use Rattle.std.proofs.Common.{◌≤◌, length, take}
use Rattle.std.specs.Io.KnownBytes.{Appends}
use Rattle.run_texts.proofs.writing.write_some.Given as goal

abbrev pub invariant-loop : goal.invariant-loop
invariant-loop g l =
    (l.done ≤ length l.bytes)
    × Appends (g.W.Write.contents l.fn.out) (g.W.Write.contents l.out) (take l.done l.bytes)
