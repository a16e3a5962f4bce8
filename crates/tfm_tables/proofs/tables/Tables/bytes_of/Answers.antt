use Rattle.std.proofs.Common.{ap, ℕ}
use Rattle.tfm_tables.proofs.TableLemmas.{table_slice}
use Rattle.tfm_tables.proofs.tables.Tables.bytes_of.Goals as goal

pub returns-clause-bytes : goal.returns-clause-bytes
returns-clause-bytes c =
    table_slice c.args.self.words.now c.args.self.counts.now c.args.table c.table-first.result.0 c.table-first.result.1 c.args.self.lawful.value
    (ap (λ (p : ℕ × ℕ). p.0) c.table-first.ensures.place)
    (ap (λ (p : ℕ × ℕ). p.1) c.table-first.ensures.place)
