use Rattle.std.proofs.Common.{arith}
use Rattle.prepared_font.proofs.WordLemmas.{prefix_is_prepared}
use Rattle.prepared_font.proofs.preparing.prepare.Goals as goal

pub returns-clause-written : goal.returns-clause-written
returns-clause-written c = λ n enough.
    prefix_is_prepared c.args.font.now c.put_table.new.room n c.put_table.ensures (omega (arith, enough, c.table_length-needed.ensures))
