use Rattle.std.proofs.Common.{arith, ◌≡◌, ◌∙◌, ◌<◌, true, subst}
use Rattle.tfm_requests.specs.declared.failures.failure.Failure.{Failure}
use Rattle.tfm_tool.specs.Served.{is_refusal}
use Rattle.tfm_tool.proofs.ServedLemmas.{done_listed, err_at, failure_listed, ok_at, refusal_of}
use Rattle.tfm_tool.proofs.program.tool.Goals as goal

pub returns-in-Ok-Ok-clause-statuses : goal.returns-in-Ok-Ok-clause-statuses
returns-in-Ok-Ok-clause-statuses g c = rw c.end.ensures.status (done_listed _)

pub returns-in-Ok-Ok-clause-silent : goal.returns-in-Ok-Ok-clause-silent
returns-in-Ok-Ok-clause-silent g c = λ below silent.
    c.end.ensures.silent (subst (λ n. n < 2) c.end.ensures.status below)
    ∙ ok_at c.answer-answered.result.0 c.in-Ok-Ok.done _ c.in-Ok-Ok.is-0 c.answer-answered.ensures.silent silent

pub returns-in-Err-default-clause-statuses : goal.returns-in-Err-default-clause-statuses
returns-in-Err-default-clause-statuses g c = rw c.fail-in-Err-default.ensures (failure_listed _).0

pub returns-in-Err-default-clause-silent : goal.returns-in-Err-default-clause-silent
returns-in-Err-default-clause-silent g c = λ below. absurd (omega (arith, below, c.fail-in-Err-default.ensures, (failure_listed c.in-Err-default.failure).1))

pub returns-in-Err-default-clause-cause : goal.returns-in-Err-default-clause-cause
returns-in-Err-default-clause-cause g c = λ which.
    let failure : Failure = c.in-Err-default.failure in
    let before : is_refusal failure ≡ true = refusal_of c.fail-in-Err-default.result failure c.fail-in-Err-default.ensures which in
    (failure, err_at c.answer-answered.result.0 failure _ c.in-Err-default.is-0 c.answer-answered.ensures.cause before, c.fail-in-Err-default.ensures)

pub returns-in-Ok-Ok-clause-served : goal.returns-in-Ok-Ok-clause-served
returns-in-Ok-Ok-clause-served g c = λ below. (
  g.O.Write.contents c.answer-answered.new.out,
  c.flush-flushed.ensures.bytes,
  rw c.end.ensures.status (ok_at c.answer-answered.result.0 c.in-Ok-Ok.done _ c.in-Ok-Ok.is-0 c.answer-answered.ensures.served),
)
