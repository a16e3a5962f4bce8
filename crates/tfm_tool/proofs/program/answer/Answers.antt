use Rattle.std.proofs.Common.{◌≡◌, ◌∙◌, false, inl, inr}
use Rattle.tfm_tool.proofs.ServedLemmas.{err_map, ok_map}
use Rattle.tfm_tool.proofs.WarningLemmas.{false_from, not_noted, not_warned}
use Rattle.tfm_tool.specs.Verbose.{may_report}
use Rattle.tfm_tool.proofs.program.answer.Goals as goal

pub returns-in-Ok-clause-served : goal.returns-in-Ok-clause-served
returns-in-Ok-clause-served g c =
    ok_map c.carry_out.result.0 _ _ (λ done is. inl (c.in-Ok.requested, c.in-Ok.ensures.asked, is)) c.carry_out.ensures.text

pub returns-in-Ok-clause-cause : goal.returns-in-Ok-clause-cause
returns-in-Ok-clause-cause g c =
    err_map c.carry_out.result.0 _ _ (λ failure cause before. inr (c.in-Ok.requested, c.in-Ok.ensures.asked, cause)) c.carry_out.ensures.cause

pub returns-in-Ok-clause-silent : goal.returns-in-Ok-clause-silent
returns-in-Ok-clause-silent g c =
    let asked = c.in-Ok.requested.request in
    ok_map c.carry_out.result.0 _ _ (λ done same silent.
    let none : may_report asked ≡ false = false_from (may_report asked) (λ may. silent (c.in-Ok.requested, c.in-Ok.ensures.asked, may)) in
    same (not_noted asked none) ∙ c.warn.ensures (not_warned asked none)) c.carry_out.ensures.silent

pub returns-in-Err-clause-served : goal.returns-in-Err-clause-served
returns-in-Err-clause-served g c =
    ok_map c.show.result _ _ (λ done is. inr (c.in-Err.error, c.in-Err.ensures.refused, is.0, is.1)) c.show.ensures.answer

pub returns-in-Err-clause-cause : goal.returns-in-Err-clause-cause
returns-in-Err-clause-cause g c =
    err_map c.show.result _ _ (λ failure cause before. let is = cause before in inl (c.in-Err.error, c.in-Err.ensures.refused, is.0, is.1)) c.show.ensures.cause
