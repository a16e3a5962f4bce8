use Rattle.std.proofs.Common.{length}
use Rattle.encodings.specs.Decoding.{IsRead}
use Rattle.encodings.proofs.decoding.push_text.Given as goal

abbrev pub invariant-loop-rest : goal.invariant-loop-rest
invariant-loop-rest l = IsRead l.encoding l.initial.rest l.rest l.initial.line l.line

abbrev pub decreases-loop-rest : goal.decreases-loop-rest
decreases-loop-rest l = length l.rest
