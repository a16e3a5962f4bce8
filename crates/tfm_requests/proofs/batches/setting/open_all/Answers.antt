use Rattle.std.proofs.Common.{subst}
use Rattle.std.specs.Arc.{arc_value}
use Rattle.std.specs.List.{AllZip}
use Rattle.run_texts.specs.Setting.{HasTerms}
use Rattle.tfm_requests.proofs.EachLemmas.{sources_of_files}
use Rattle.tfm_requests.specs.Told.{told_reader}
use Rattle.tfm_requests.proofs.batches.setting.open_all.Goals as goal

pub returns-in-Ok : goal.returns-in-Ok
returns-in-Ok g c =
    sources_of_files (g.F.Opens.known c.args.files.now) (told_reader g.F.File.Read.remaining c.args.setting.now.layout.crlf) (λ sources. sources.items) c.open_each.result
    c.args.setting.now.layout (arc_value c.args.terms.now) c.args.setting.now.files.items c.in-Ok.named.items
    (subst (λ names. AllZip (HasTerms (arc_value c.args.terms.now)) names c.in-Ok.named.items) c.as_slice.ensures.value c.in-Ok.ensures) c.open_each.ensures
