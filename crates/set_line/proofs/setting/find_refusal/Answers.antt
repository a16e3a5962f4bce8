use Rattle.std.proofs.Common.{◌≡◌, rules, tests, sym, ◌∙◌}
use Rattle.std.proofs.lemmas.Iterator.{YieldsList-from_slice}
use Rattle.std.proofs.lemmas.Iterator.Search.{position_from_yields_List}
use Rattle.std.specs.List.{position}
use Rattle.set_line.specs.Answer.{is_refused}
use Rattle.set_line.proofs.AnswerLemmas.{missing_at, missing_nowhere}
use Rattle.set_line.proofs.setting.find_refusal.Goals as goal

pub returns-in_err-offset : goal.returns-in_err-offset
returns-in_err-offset c =
    let found : c.position.result ≡ position (is_refused c.args.terms.now.policy c.args.terms.now.font) c.args.line.now =
    position_from_yields_List (is_refused c.args.terms.now.policy c.args.terms.now.font) _ _ c.position.result c.position.ensures.ran
    (YieldsList-from_slice _ c.iter.ensures.rest) (λ x b q k. search (rules, tests)) in
    missing_nowhere c.args.terms.now c.args.line.now c.from_residual.result c.if-line-gt-MOST_BYTES.false (sym found ∙ c.in_err-offset.was) (search rules)

pub returns : goal.returns
returns c =
    let found : c.position.result ≡ position (is_refused c.args.terms.now.policy c.args.terms.now.font) c.args.line.now =
    position_from_yields_List (is_refused c.args.terms.now.policy c.args.terms.now.font) _ _ c.position.result c.position.ensures.ran
    (YieldsList-from_slice _ c.iter.ensures.rest) (λ x b q k. search (rules, tests)) in
    missing_at c.args.terms.now c.args.line.now c.in_ok-offset.offset c.if-line-gt-MOST_BYTES.false (sym found ∙ c.in_ok-offset.was)
