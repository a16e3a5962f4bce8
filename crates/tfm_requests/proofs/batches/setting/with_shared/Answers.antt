use Rattle.std.proofs.Common.{subst}
use Rattle.std.specs.Prelude.{IfOk}
use Rattle.std.specs.Arc.{arc_value}
use Rattle.std.specs.List.{AllZip}
use Rattle.run_texts.specs.Setting.{HasTerms}
use Rattle.tfm_requests.proofs.batches.setting.with_shared.Goals as goal

pub returns : goal.returns
returns c = subst (λ names. IfOk c.with_terms.result (λ named. AllZip (HasTerms (arc_value c.args.terms.now)) names named.items)) c.in_ok-names.ensures.items c.with_terms.ensures.terms
