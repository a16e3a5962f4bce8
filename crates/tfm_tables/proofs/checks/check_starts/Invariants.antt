use Rattle.std.proofs.Common.{◌≡◌, ℕ, ◌<◌, ◌≤◌, None}
use Rattle.tfm_words.specs.CountFaults.{first_fault}
use Rattle.tfm_tables.specs.Acceptance.{start_faults}
use Rattle.tfm_tables.proofs.checks.check_starts.Given as goal

abbrev pub invariant-loop-code : goal.invariant-loop-code
invariant-loop-code l = (k : ℕ) → l.fn.tables.counts.now.bc ≤ k → k < l.code → first_fault (start_faults l.fn.tables.words.now k) ≡ None
