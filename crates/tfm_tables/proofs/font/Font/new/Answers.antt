use Rattle.std.proofs.Common.{arith, ap, length}
use Rattle.tfm_tables.proofs.DecodedLemmas.{length-starts_of}
use Rattle.tfm_tables.proofs.font.Font.new.Goals as goal

pub build-requires-clause-sides : goal.build-requires-clause-sides
build-requires-clause-sides c = omega (arith, length-starts_of c.args.metrics.words, ap length c.in_ok-starts.ensures)
