use Rattle.std.proofs.Common.{◌≡◌, ℕ, ◌<◌, None}
use Rattle.tfm_words.specs.CountFaults.{first_fault}
use Rattle.tfm_tables.specs.Acceptance.{instruction_faults}
use Rattle.tfm_tables.proofs.checks.check_program.Given as goal

abbrev pub invariant-loop-i : goal.invariant-loop-i
invariant-loop-i l = (k : ℕ) → k < l.i → first_fault (instruction_faults l.fn.tables.words.now k) ≡ None
