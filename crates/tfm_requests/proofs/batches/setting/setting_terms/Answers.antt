use Rattle.std.specs.Arc.{arc_value}
use Rattle.tfm_requests.specs.Known.{font_bytes_of}
use Rattle.tfm_requests.proofs.CauseLemmas.{kept_error, unread_font}
use Rattle.tfm_requests.proofs.EachLemmas.{kept_terms}
use Rattle.tfm_requests.proofs.FailureLemmas.{handed_on}
use Rattle.tfm_requests.proofs.batches.setting.setting_terms.Goals as goal

pub returns-clause-terms : goal.returns-clause-terms
returns-clause-terms g c =
    kept_terms (font_bytes_of (g.F.Opens.known c.args.files.now) (g.I.Read.remaining c.args.input.now) c.args.setting.now.font.now) c.in_ok-bytes.bytes.items
    c.args.setting.now.layout c.args.setting.now.limit arc_value c.font_terms.result c.in_ok-bytes.ensures.bytes c.as_slice.ensures.value c.font_terms.ensures.terms

pub returns-clause-cause : goal.returns-clause-cause
returns-clause-cause g c =
    kept_error (font_bytes_of (g.F.Opens.known c.args.files.now) (g.I.Read.remaining c.args.input.now) c.args.setting.now.font.now) c.in_ok-bytes.bytes.items
    c.font_terms.result c.in_ok-bytes.ensures.bytes c.as_slice.ensures.value c.font_terms.ensures.cause

pub returns-in_err-bytes-clause-cause : goal.returns-in_err-bytes-clause-cause
returns-in_err-bytes-clause-cause g c = handed_on c.from_residual.result _ _ c.from_residual.ensures.1 (unread_font _ c.in_err-bytes.field-0.0)
