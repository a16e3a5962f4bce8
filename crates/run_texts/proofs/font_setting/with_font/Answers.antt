use Rattle.std.proofs.Common.{subst}
use Rattle.std.specs.List.{AllZip}
use Rattle.run_texts.specs.Setting.{HasTerms}
use Rattle.run_texts.proofs.font_setting.with_font.Goals as goal

pub returns-clause-terms : goal.returns-clause-terms
returns-clause-terms g c =
    let made = c.in_ok-terms.ensures.terms in
    (made.0, made.1, subst (λ terms. AllZip (HasTerms terms) c.args.sources.items c.in_ok-with_terms.field-0.items) made.2 c.in_ok-with_terms.ensures.terms)
