use Rattle.std.proofs.Common.{ℕ, List, Option}
use Rattle.std.specs.Arc.{arc_value}
use Rattle.tfm_requests.proofs.CauseLemmas.{kept_error, unread_font}
use Rattle.tfm_requests.proofs.EachLemmas.{kept_terms}
use Rattle.tfm_requests.proofs.FailureLemmas.{handed_on}
use Rattle.tfm_requests.proofs.KnownLemmas.{same_of_kept}
use Rattle.tfm_requests.proofs.batches.jobs.job_terms.Goals as goal

pub returns-clause-terms : goal.returns-clause-terms
returns-clause-terms g c =
    let known : Option (List ℕ) = g.F.Opens.known c.args.files.now c.args.job.now.font.now in
    kept_terms known c.in_ok-bytes.bytes.items c.args.layout.now c.args.job.now.limit arc_value c.font_terms.result (same_of_kept known c.in_ok-bytes.bytes.items c.in_ok-bytes.ensures)
    c.as_slice.ensures.value c.font_terms.ensures.terms

pub returns-clause-cause : goal.returns-clause-cause
returns-clause-cause g c =
    let known : Option (List ℕ) = g.F.Opens.known c.args.files.now c.args.job.now.font.now in
    kept_error known c.in_ok-bytes.bytes.items c.font_terms.result (same_of_kept known c.in_ok-bytes.bytes.items c.in_ok-bytes.ensures)
    c.as_slice.ensures.value c.font_terms.ensures.cause

pub returns-in_err-bytes-clause-cause : goal.returns-in_err-bytes-clause-cause
returns-in_err-bytes-clause-cause g c = handed_on c.from_residual.result _ _ c.from_residual.ensures.1 (unread_font _ c.in_err-bytes.field-0.0)
