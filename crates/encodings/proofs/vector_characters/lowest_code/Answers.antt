use Rattle.std.proofs.Common.{arith}
use Rattle.encodings.proofs.VectorLemmas.{number_absent}
use Rattle.encodings.proofs.vector_characters.lowest_code.Goals as goal

pub returns : goal.returns
returns c = number_absent c.args.characters.now c.args.number c.loop-code.code c.loop-code.invariant (omega (arith, c.told-characters, c.loop-code-test.false))
