use Rattle.std.proofs.Common.{◌≡◌, subst}
use Rattle.tfm_tables.specs.Font.{FontValue, IsFontOf, IsRefusalOf}
use Rattle.tfm_requests.specs.Errors.{font_error_of}
use Rattle.tfm_requests.specs.Known.{font_bytes_of}
use Rattle.tfm_requests.specs.Requests.{list_text_of}
use Rattle.tfm_requests.proofs.CauseLemmas.{font_error, refused_font, unread_font}
use Rattle.tfm_requests.proofs.FailureLemmas.{handed_on}
use Rattle.tfm_requests.proofs.KnownLemmas.{of_font}
use Rattle.tfm_requests.proofs.texts.listing.Goals as goal

pub returns-clause-text : goal.returns-clause-text
returns-clause-text g c =
    let listed = c.args.listed.now in
    of_font (font_bytes_of (g.F.Opens.known c.args.files.now) (g.I.Read.remaining c.args.input.now) listed.font.now) c.in_ok-bytes.bytes.items listed.size
    (λ font. c.in_ok-text.text.items ≡ list_text_of listed.layout listed.all font) c.in_ok-bytes.ensures.bytes
    (subst (λ b. (f : FontValue) × IsFontOf b listed.size f × (c.in_ok-text.text.items ≡ list_text_of listed.layout listed.all f)) c.as_slice.ensures.value c.in_ok-text.ensures.text)

pub returns-in_err-bytes-clause-cause : goal.returns-in_err-bytes-clause-cause
returns-in_err-bytes-clause-cause g c = handed_on c.from_residual.result _ _ c.from_residual.ensures.1 (unread_font _ c.in_err-bytes.field-0.0)

pub returns-in_err-text-clause-cause : goal.returns-in_err-text-clause-cause
returns-in_err-text-clause-cause g c =
    handed_on c.from_residual-in_err-text.result _ _ c.from_residual-in_err-text.ensures.1
    (font_error _ c.in_ok-bytes.bytes.items (font_error_of c.in_err-text.field-0.0) c.in_ok-bytes.ensures.bytes
    (refused_font c.in_ok-bytes.bytes.items c.in_err-text.field-0.0 (subst (λ b. IsRefusalOf b c.in_err-text.field-0.0) c.as_slice.ensures.value c.in_err-text.ensures.fault)))
