use Rattle.std.proofs.Common.{◌≡◌, ℕ, ◌<◌, None}
use Rattle.tfm_words.specs.CountFaults.{first_fault}
use Rattle.tfm_tables.specs.Acceptance.{measure_faults}
use Rattle.tfm_tables.proofs.checks.check_table.Given as goal

abbrev pub invariant-loop-i : goal.invariant-loop-i
invariant-loop-i l = (k : ℕ) → k < l.i → first_fault (measure_faults l.fn.tables.words.now l.fn.table k) ≡ None
