-- the jobs so far have their terms
use Rattle.std.proofs.Common.{take}
use Rattle.std.specs.List.{AllZip}
use Rattle.tfm_requests.specs.Jobs.{HasTermsOf}
use Rattle.tfm_requests.proofs.batches.jobs.all_terms.Given as goal

abbrev pub invariant-loop-job : goal.invariant-loop-job
invariant-loop-job g l = AllZip (HasTermsOf (g.F.Opens.known l.files) l.layout) (take l.job-index l.jobs) l.all.items
