use Rattle.std.proofs.Common.{None, MutBor, ap, subst, sym}
use Rattle.std.specs.Prelude.{IfErr, IfOk}
use Rattle.tfm_requests.specs.Causes.{IsCauseOf}
use Rattle.tfm_requests.specs.Requests.{IsDone}
use Rattle.tfm_requests.specs.Status.{done_status}
use Rattle.tfm_tool.proofs.verbose.perform_watched.Goals as goal

pub returns-clause-text : goal.returns-clause-text
returns-clause-text g c =
    let remaining = λ (reader : MutBor g.row.I.Denot). g.I.Read.remaining reader.now in
    let contents = λ (out : MutBor g.row.O.Denot). g.O.Write.contents out.now in
    let asked = g.Q.AnyArguments.arguments c.args.arguments.now in
    subst (λ after. IfOk c.perform-done.result (λ done. IsDone (λ _. None) (remaining c.args.input) (contents c.args.sink.out) after asked (done_status done)))
    (sym (ap contents c.into_sink.ensures))
    (subst (λ before. IfOk c.perform-done.result (λ done. IsDone (λ _. None) (remaining c.args.input) before (contents c.perform-done.new.out.out) asked (done_status done)))
    (ap contents c.new-out.ensures)
    (subst (λ input. IfOk c.perform-done.result (λ done. IsDone (λ _. None) input (contents c.new-out.result.out) (contents c.perform-done.new.out.out) asked (done_status done)))
    (ap remaining c.new-input.ensures) c.perform-done.ensures.text))

pub returns-clause-cause : goal.returns-clause-cause
returns-clause-cause g c =
    let remaining = λ (reader : MutBor g.row.I.Denot). g.I.Read.remaining reader.now in
    subst (λ input. IfErr c.perform-done.result (IsCauseOf (λ _. None) input (g.Q.AnyArguments.arguments c.args.arguments.now)))
    (ap remaining c.new-input.ensures) c.perform-done.ensures.cause
