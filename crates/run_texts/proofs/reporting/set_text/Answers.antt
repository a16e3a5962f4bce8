use Rattle.run_texts.proofs.SettingLemmas.{ok_then}
use Rattle.run_texts.proofs.reporting.set_text.Goals as goal

pub returns-clause-text : goal.returns-clause-text
returns-clause-text g c =
    let made = c.in_ok-sources.ensures.terms in
    ok_then c.set_each.result _ _
    (λ summary told. (made.0, c.in_ok-sources.sources.items, told.0, made.1, made.2, told.1, told.2)) c.set_each.ensures.text
