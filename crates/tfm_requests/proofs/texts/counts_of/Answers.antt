use Rattle.std.proofs.Common.{◌≡◌, ◌∙◌, None, subst, sym}
use Rattle.font_texts.specs.CountsText.{IsHeadRefusalOf, counts_text_of, head_fault_of}
use Rattle.tfm_requests.specs.Errors.{font_error_of}
use Rattle.tfm_requests.specs.Known.{font_bytes_of}
use Rattle.tfm_requests.proofs.CauseLemmas.{head_error, refused_head, unread_head}
use Rattle.tfm_requests.proofs.FailureLemmas.{handed_on}
use Rattle.tfm_requests.proofs.KnownLemmas.{of_known}
use Rattle.tfm_requests.proofs.texts.counts_of.Goals as goal

pub returns-clause-text : goal.returns-clause-text
returns-clause-text g c =
    let sound = subst (λ b. head_fault_of b ≡ None) c.as_slice.ensures.value c.in_ok-text.ensures.accepted in
    let is = subst (λ b. c.in_ok-text.text.items ≡ counts_text_of b) c.as_slice.ensures.value c.in_ok-text.ensures.text in
    of_known (font_bytes_of (g.F.Opens.known c.args.files.now) (g.I.Read.remaining c.args.input.now) c.args.font.now) c.in_ok-bytes.bytes.items
    (λ all. (head_fault_of all ≡ None) × (c.in_ok-text.text.items ≡ counts_text_of all)) c.in_ok-bytes.ensures.bytes (sound, is)
    (λ all same. (sym same.head ∙ sound, is ∙ same.counts))

pub returns-in_err-bytes-clause-cause : goal.returns-in_err-bytes-clause-cause
returns-in_err-bytes-clause-cause g c = handed_on c.from_residual.result _ _ c.from_residual.ensures.1 (unread_head _ c.in_err-bytes.field-0.0)

pub returns-in_err-text-clause-cause : goal.returns-in_err-text-clause-cause
returns-in_err-text-clause-cause g c =
    handed_on c.from_residual-in_err-text.result _ _ c.from_residual-in_err-text.ensures.1
    (head_error _ c.in_ok-bytes.bytes.items (font_error_of c.in_err-text.field-0.0) c.in_ok-bytes.ensures.bytes
    (refused_head c.in_ok-bytes.bytes.items c.in_err-text.field-0.0 (subst (λ b. IsHeadRefusalOf b c.in_err-text.field-0.0) c.as_slice.ensures.value c.in_err-text.ensures.fault)))
