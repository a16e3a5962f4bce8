-- In words with sound tables each dimension that a font returns is the scaled value of its entry, and no 0
-- takes the place of an entry that can't be scaled.
use Rattle.std.proofs.Common.{◌≡◌, ℕ, ℤ, Bool, true, false, List, Option, Some, None, IfSome, refl, sym, subst, ap, ◌∙◌, if◌then◌else◌}
use Rattle.tfm_words.specs.declared.table.Table.TheVariants.{Width, Height, Depth, Italic}
use Rattle.tfm_tables.specs.declared.metrics.Metrics.{Metrics}
use Rattle.tfm_tables.specs.Character.{AreScaled, char_info_of, character_width_of, depth_index, exists, height_index, italic_index, measures_of, metrics_of, width_index}
use Rattle.tfm_tables.specs.Measure.{scaled_entry}
use Rattle.tfm_tables.specs.Sound.{HasSoundTables}
use Rattle.tfm_tables.proofs.MeasureLemmas.{entry_scaled}
use Rattle.tfm_tables.proofs.SoundLemmas.{coded_of_exists}

-- the dimensions of a character
measures_scaled : (words : List ℕ) (size code : ℕ) → HasSoundTables words → exists words code ≡ true → AreScaled words size code (measures_of words size code)
measures_scaled words size code sound is =
    let there = sound.indices code (coded_of_exists words code is) in
    record {
      width = entry_scaled words size Width (width_index (char_info_of words code)) (sound.measures.widths _ there.width);
      height = entry_scaled words size Height (height_index (char_info_of words code)) (sound.measures.heights _ there.height);
      depth = entry_scaled words size Depth (depth_index (char_info_of words code)) (sound.measures.depths _ there.depth);
      italic = entry_scaled words size Italic (italic_index (char_info_of words code)) (sound.measures.italics _ there.italic);
    }

pub metrics_scaled : (words : List ℕ) (size code : ℕ) (metrics : Option Metrics) → HasSoundTables words → metrics ≡ metrics_of words size code
    → IfSome metrics (AreScaled words size code)
metrics_scaled words size code metrics sound is = subst (λ (o : Option Metrics). IfSome o (AreScaled words size code)) (sym is) (by (exists words code) refl)
  where
    by : (b : Bool) → exists words code ≡ b → IfSome (if b then Some (measures_of words size code) else None) (AreScaled words size code)
    by true there = measures_scaled words size code sound there
    by false there = tt

-- the width of a character alone
pub width_scaled : (words : List ℕ) (size code : ℕ) (width : ℤ) → HasSoundTables words → exists words code ≡ true → width ≡ character_width_of words size code
    → scaled_entry words size Width (width_index (char_info_of words code)) ≡ Some width
width_scaled words size code width sound there is =
    let same : width ≡ (measures_of words size code).width = rw there at is in
    (measures_scaled words size code sound there).width ∙ ap Some (sym same)

pub ruleset dimensions = (metrics_scaled, width_scaled)
