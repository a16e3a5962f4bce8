use Rattle.std.proofs.Common.{rules, ℕ, List, Bor, Option, length, ◌≡◌, ◌∷◌, [], ◌++◌, ◌+◌, map, take, refl, subst, sym}
use Rattle.std.specs.List.{AllZip}
use Rattle.std.specs.declared.alloc.Global.{Global}
use Rattle.std.specs.declared.sync.Arc.{Arc}
use Rattle.set_line.specs.Terms.{TermsValue}
use Rattle.tfm_requests.specs.Causes.{IsJobError}
use Rattle.tfm_requests.specs.Jobs.{HasTermsOf, job_value}
use Rattle.tfm_requests.specs.Errors.{job_error_of}
use Rattle.tfm_requests.proofs.CauseLemmas.{first_error}
use Rattle.tfm_requests.proofs.JobLemmas.{place_more}
use Rattle.tfm_requests.proofs.batches.jobs.all_terms.Goals as goal

pub loop-job-preserved : goal.loop-job-preserved
loop-job-preserved g c =
    let pair : Bor (List ℕ) × Arc TermsValue Global = (c.job-item.result.file, c.in-Ok.terms) in
    let more : c.push.new.self.items ≡ c.loop-job.all.items ++ pair ∷ [] = search rules in
    subst (λ all. AllZip (HasTermsOf (g.F.Opens.known c.args.files.now) c.args.layout.now) (take (c.loop-job.job-index + 1) c.args.jobs.now) all) (sym more)
    (place_more (HasTermsOf (g.F.Opens.known c.args.files.now) c.args.layout.now) c.args.jobs.now
    c.loop-job.all.items c.loop-job.job-index c.job-item.result pair (search rules) (search rules) c.loop-job.invariant (refl, c.in-Ok.ensures.terms))

pub returns-in-Err-clause-cause : goal.returns-in-Err-clause-cause
returns-in-Err-clause-cause g c =
    let known : List ℕ → Option (List ℕ) = g.F.Opens.known c.args.files.now in
    let number : c.len.result ≡ length c.loop-job.all.items = search rules in
    subst (IsJobError known c.args.layout.now (map job_value c.args.jobs.now)) (sym c.numbered.ensures)
    (subst (λ n. IsJobError known c.args.layout.now (map job_value c.args.jobs.now) (job_error_of (n + 1) c.in-Err.error)) (sym number)
    (first_error known c.args.layout.now c.args.jobs.now c.loop-job.all.items c.loop-job.job-index c.job-item.result c.in-Err.error (search rules) (search rules)
    c.loop-job.invariant c.in-Err.ensures.cause))
