use Rattle.std.proofs.Common.{◌≡◌, ℕ, ◌<◌, ◌≤◌, None}
use Rattle.tfm_words.specs.CountFaults.{first_fault}
use Rattle.tfm_tables.specs.Acceptance.{parameter_faults}
use Rattle.tfm_tables.proofs.checks.check_parameters.Given as goal

abbrev pub invariant-loop-number : goal.invariant-loop-number
invariant-loop-number l = (k : ℕ) → 2 ≤ k → k < l.number → first_fault (parameter_faults l.fn.tables.words.now k) ≡ None
