use Rattle.std.proofs.Common.{arith}
use Rattle.encodings.proofs.VectorLemmas.{own_filled}
use Rattle.encodings.proofs.vector_characters.own_numbers.Goals as goal

pub returns : goal.returns
returns c =
    own_filled c.args.characters.now c.loop-code.own (omega (arith, c.told-characters)) (omega (arith, c.loop-code.invariant.0))
    (λ k below. c.loop-code.invariant.1 k (omega (arith, below, c.loop-code-test.false)))
