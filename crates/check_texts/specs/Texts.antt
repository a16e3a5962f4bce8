-- The texts of warnings, and which of them are reasons for TeX to refuse a font.
-- Public source: tex.web, sections 569, 570 and 574, for the reasons; the texts are this project's own.
use Rattle.std.specs.Prelude.{ℕ, Bool, true, false, List, ◌++◌, codes, decimal}
use Rattle.check_texts.specs.declared.warning.Warning.{Warning}
use Rattle.check_texts.specs.declared.warning.Warning.TheVariants.{LargerOutside, Circle, LargerMissing, RecipeMissing, Operation, PieceMissing, ExtraBytes, Endless, EndlessAtLeft}

-- TeX refuses a font with this warning
abbrev pub is_refusal : Warning → Bool
is_refusal (LargerOutside _ _) = true
is_refusal (Circle _) = true
is_refusal (RecipeMissing _ _) = true
is_refusal (PieceMissing _ _) = true
is_refusal _ = false

-- the text of a warning, with its place
unfoldable pub warning_text : Warning → List ℕ
warning_text (LargerOutside code larger) = codes "character " ++ (decimal code ++ (codes ", not from bc to ec: " ++ decimal larger))
warning_text (Circle code) = codes "character " ++ (decimal code ++ codes ", charlist is a circle")
warning_text (LargerMissing code larger) = codes "character " ++ (decimal code ++ (codes ", larger one missing: " ++ decimal larger))
warning_text (RecipeMissing code recipe) = codes "character " ++ (decimal code ++ (codes ", recipe missing: " ++ decimal recipe))
warning_text (Operation index op) = codes "instruction " ++ (decimal index ++ (codes ", unlisted op code: " ++ decimal op))
warning_text (PieceMissing recipe code) = codes "recipe " ++ (decimal recipe ++ (codes ", character missing: " ++ decimal code))
warning_text ExtraBytes = codes "bytes after the last word"
warning_text (Endless left right) = codes "program never ends: " ++ (decimal left ++ (codes " " ++ decimal right))
warning_text (EndlessAtLeft right) = codes "program never ends: left " ++ decimal right
