use Rattle.encodings.proofs.VectorLemmas.{AreBefore}
use Rattle.encodings.proofs.vector_characters.lowest_code.Given as goal

abbrev pub invariant-loop-code : goal.invariant-loop-code
invariant-loop-code l = AreBefore l.characters l.fn.number l.code
