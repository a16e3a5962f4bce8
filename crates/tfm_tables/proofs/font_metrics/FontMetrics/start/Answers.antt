use Rattle.std.proofs.Common.{subst}
use Rattle.tfm_tables.specs.Font.{FontValue}
use Rattle.tfm_tables.specs.Sound.{HasSoundTables}
use Rattle.tfm_tables.proofs.StartLemmas.{begun_within}
use Rattle.tfm_tables.proofs.font_metrics.FontMetrics.start.Goals as goal

pub returns-clause-within : goal.returns-clause-within
returns-clause-within c =
    let has_sound : FontValue → Type 0 = λ v. HasSoundTables v.words in
    begun_within c.args.self.now.words c.args.left c.address.result (subst has_sound c.self.view_is c.self.invariant.sound) c.address.ensures
