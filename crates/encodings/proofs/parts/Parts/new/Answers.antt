use Rattle.std.proofs.Common.{◌+◌, length, arith}
use Rattle.encodings.proofs.EncodedLemmas.{all_codes, still_between}
use Rattle.encodings.proofs.parts.Parts.new.Goals as goal

pub invariant_of-result : goal.invariant_of-result
invariant_of-result c = (
  still_between 0 (length c.args.codes.now) (0 + length c.args.codes.now) c.args.gaps.now (omega arith) c.requires,
  all_codes c.args.codes.now (λ k. omega (arith, c.type_inv.codes k)),
)
