use Rattle.std.proofs.Common.{refl, subst, sym}
use Rattle.tfm_requests.specs.Jobs.{AreTermsFor}
use Rattle.std.proofs.Common.{Some}
use Rattle.tfm_requests.proofs.CauseLemmas.{refused_font}
use Rattle.tfm_requests.proofs.FailureLemmas.{handed_on}
use Rattle.tfm_requests.proofs.batches.jobs.font_terms.Goals as goal

pub returns-clause-terms : goal.returns-clause-terms
returns-clause-terms c =
    let (font, is, are) = c.in_ok-terms_of.ensures.terms in
    subst (AreTermsFor (Some c.args.bytes.now) c.args.layout.now c.args.limit) (sym are) (is, refl, refl)

pub returns-in_err-terms_of-clause-cause : goal.returns-in_err-terms_of-clause-cause
returns-in_err-terms_of-clause-cause c =
    handed_on c.from_residual.result _ _ c.from_residual.ensures.1 (refused_font c.args.bytes.now c.in_err-terms_of.field-0.0 c.in_err-terms_of.ensures.fault)
