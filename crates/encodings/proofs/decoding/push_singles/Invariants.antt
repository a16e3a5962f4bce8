use Rattle.std.proofs.Common.{length}
use Rattle.encodings.specs.Decoding.{IsRead}
use Rattle.encodings.proofs.decoding.push_singles.Given as goal

abbrev pub invariant-loop-code : goal.invariant-loop-code
invariant-loop-code l = IsRead l.encoding l.initial.rest l.rest l.initial.line l.line

abbrev pub decreases-loop-code : goal.decreases-loop-code
decreases-loop-code l = length l.rest
