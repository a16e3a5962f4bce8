use Rattle.std.proofs.Common.{arith, ◌≡◌, map, subst}
use Rattle.std.specs.List.{AllZip}
use Rattle.tfm_requests.specs.Jobs.{HasTermsOf, job_value, jobs_in, told_with_terms}
use Rattle.tfm_requests.proofs.CauseLemmas.{few_of_jobs}
use Rattle.tfm_requests.proofs.EachLemmas.{sources_of_jobs}
use Rattle.tfm_requests.specs.Told.{told_reader}
use Rattle.tfm_requests.proofs.batches.each.set_jobs.Goals as goal

pub set_readers-requires-after_bounds : goal.set_readers-requires-after_bounds
set_readers-requires-after_bounds g c κs within =
    omega (
      arith,
      c.in_ok-readers.readers.ok.0,
      few_of_jobs (g.F.Opens.known c.args.files.now) c.args.asked.now.layout (told_reader g.F.File.Read.remaining c.args.asked.now.layout.crlf)
          c.as_slice.result.now c.in_ok-given.given.items c.in_ok-with_terms.with_terms.items c.in_ok-readers.readers.items c.in_ok-given.ensures.lawful c.in_ok-given.ensures.jobs
          (subst (λ jobs. AllZip (HasTermsOf (g.F.Opens.known c.args.files.now) c.args.asked.now.layout) jobs c.in_ok-with_terms.with_terms.items)
          c.as_slice-2.ensures.value c.in_ok-with_terms.ensures.terms) c.in_ok-readers.ensures,
    )

pub returns-clause-text : goal.returns-clause-text
returns-clause-text g c = (
  c.in_ok-encoding.encoding,
  c.in_ok-encoding.ensures.encoding,
  (
    map (told_with_terms (told_reader g.F.File.Read.remaining c.args.asked.now.layout.crlf)) c.in_ok-readers.readers.items,
    sources_of_jobs (g.F.Opens.known c.args.files.now) (told_reader g.F.File.Read.remaining c.args.asked.now.layout.crlf) c.args.asked.now.layout
        c.in_ok-given.given.items c.args.asked.now.words.items c.in_ok-with_terms.with_terms.items c.in_ok-readers.readers.items
        (subst (λ words. map job_value c.in_ok-given.given.items ≡ jobs_in words) c.as_slice.ensures.value c.in_ok-given.ensures.jobs)
        (subst (λ jobs. AllZip (HasTermsOf (g.F.Opens.known c.args.files.now) c.args.asked.now.layout) jobs c.in_ok-with_terms.with_terms.items)
        c.as_slice-2.ensures.value c.in_ok-with_terms.ensures.terms)
        c.in_ok-readers.ensures,
    c.in_ok-set_readers.ensures.text,
  ),
)
