use Rattle.std.proofs.Common.{◌≡◌, ℕ, ◌<◌, ◌≤◌, None}
use Rattle.tfm_words.specs.CountFaults.{first_fault}
use Rattle.tfm_tables.specs.Acceptance.{index_faults}
use Rattle.tfm_tables.proofs.checks.check_indices.Given as goal

abbrev pub invariant-loop-code : goal.invariant-loop-code
invariant-loop-code l = (k : ℕ) → l.fn.tables.counts.now.bc ≤ k → k < l.code → first_fault (index_faults l.fn.tables.words.now k) ≡ None
