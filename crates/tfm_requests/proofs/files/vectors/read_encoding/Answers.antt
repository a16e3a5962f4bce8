use Rattle.std.proofs.Common.{subst}
use Rattle.std.specs.Prelude.{IfErr, IfOk}
use Rattle.tfm_requests.specs.Vectors.{IsErrorOfText, IsVectorIn}
use Rattle.tfm_requests.proofs.FailureLemmas.{handed_on}
use Rattle.tfm_requests.proofs.VectorLemmas.{read_error_of, read_vector_of, unread_vector}
use Rattle.tfm_requests.proofs.files.vectors.read_encoding.Goals as goal

pub returns-clause-encoding : goal.returns-clause-encoding
returns-clause-encoding g c =
    read_vector_of (g.F.Opens.known c.args.files.now c.args.file.now) c.in_ok-text.text.items c.in_ok-text.ensures c.vector_encoding.result
    (subst (λ b. IfOk c.vector_encoding.result (IsVectorIn b)) c.as_slice.ensures.value c.vector_encoding.ensures.encoding)

pub returns-clause-cause : goal.returns-clause-cause
returns-clause-cause g c =
    read_error_of (g.F.Opens.known c.args.files.now c.args.file.now) c.in_ok-text.text.items c.in_ok-text.ensures c.vector_encoding.result
    (subst (λ b. IfErr c.vector_encoding.result (IsErrorOfText b)) c.as_slice.ensures.value c.vector_encoding.ensures.cause)

pub returns-in_err-text-clause-cause : goal.returns-in_err-text-clause-cause
returns-in_err-text-clause-cause g c = handed_on c.from_residual.result _ _ c.from_residual.ensures.1 (unread_vector _ c.in_err-text.field-0.0)
