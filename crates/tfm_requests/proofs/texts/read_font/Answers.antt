use Rattle.std.proofs.Common.{subst}
use Rattle.tfm_tables.specs.Font.{IsFontOf, IsRefusalOf}
use Rattle.tfm_requests.specs.Errors.{font_error_of}
use Rattle.tfm_requests.specs.Known.{font_bytes_of}
use Rattle.tfm_requests.proofs.CauseLemmas.{font_error, refused_font, unread_font}
use Rattle.tfm_requests.proofs.FailureLemmas.{handed_on}
use Rattle.tfm_requests.proofs.KnownLemmas.{of_known}
use Rattle.tfm_requests.proofs.texts.read_font.Goals as goal

pub returns-clause-font : goal.returns-clause-font
returns-clause-font g c =
    let asked = c.args.asked.now in
    let is = subst (λ b. IsFontOf b asked.size c.in_ok-font.font) c.as_slice.ensures.value c.in_ok-font.ensures.ok in
    of_known (font_bytes_of (g.F.Opens.known c.args.files.now) (g.I.Read.remaining c.args.input.now) asked.font.now) c.in_ok-bytes.bytes.items
    (λ all. IsFontOf all asked.size c.in_ok-font.font) c.in_ok-bytes.ensures.bytes is (λ all same. same.font asked.size c.in_ok-font.font is)

pub returns-in_err-bytes-clause-cause : goal.returns-in_err-bytes-clause-cause
returns-in_err-bytes-clause-cause g c = handed_on c.from_residual.result _ _ c.from_residual.ensures.1 (unread_font _ c.in_err-bytes.field-0.0)

pub returns-in_err-font-clause-cause : goal.returns-in_err-font-clause-cause
returns-in_err-font-clause-cause g c =
    handed_on c.from_residual-in_err-font.result _ _ c.from_residual-in_err-font.ensures.1
    (font_error _ c.in_ok-bytes.bytes.items (font_error_of c.in_err-font.field-0.0) c.in_ok-bytes.ensures.bytes
    (refused_font c.in_ok-bytes.bytes.items c.in_err-font.field-0.0 (subst (λ b. IsRefusalOf b c.in_err-font.field-0.0) c.as_slice.ensures.value c.in_err-font.ensures.fault)))
