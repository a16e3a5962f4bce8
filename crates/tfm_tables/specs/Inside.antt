-- The invariant of the fields of the metrics of a font: its words are those of an accepted font.
-- This project's own representation.
use Rattle.std.specs.Prelude.{◌≡◌, Ok}
use Rattle.tfm_words.specs.Counts.{AreCountsOf}
use Rattle.tfm_words.specs.DesignSize.{design_size_of}
use Rattle.tfm_tables.specs.declared.font_metrics.FontMetrics.TheInside.{Inside}
use Rattle.tfm_tables.specs.Sound.{HasSoundTables}

-- the counts are those of the words, the tables of the words are sound, and their design size is accepted
pub record HasAcceptedWords (f : Inside) : Type 0 where
  pub counts : AreCountsOf f.words.items f.counts
  pub sound : HasSoundTables f.words.items
  pub design : design_size_of f.words.items ≡ Ok f.design
