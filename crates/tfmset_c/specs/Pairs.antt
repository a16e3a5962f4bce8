-- All pairs of neighbours for which the lig/kern program of a font has an action, as C gets them.
-- This project's own; the list of pairs is defined in Pairs of `font_texts`.
use Rattle.std.specs.Prelude.{ℕ, pos, List, map}
use Rattle.font_texts.specs.Pairs.{pairs_of}
use Rattle.font_texts.specs.declared.pair.Pair.{Pair}
use Rattle.lig_kern.specs.declared.symbol.Symbol.{Symbol}
use Rattle.lig_kern.specs.declared.symbol.Symbol.TheVariants.{Left, Char, Right}
use Rattle.lig_kern.specs.declared.action.Action.{Action}
use Rattle.lig_kern.specs.declared.action.Action.TheVariants.{Kern, Lig}
use Rattle.tfm_tables.specs.Font.{FontValue}
use Rattle.tfmset_c.specs.Fonts.{flag}
use Rattle.tfmset_c.specs.declared.pairs.TfmsetPair.{TfmsetPair}

-- the number by which C names a symbol: its code, or 256 for a boundary
unfoldable pub symbol_number : Symbol → ℕ
symbol_number Left = 256
symbol_number (Char code) = code
symbol_number Right = 256

-- neighbours with these numbers, and their action: 1 for a kern, 2 for a ligature operation
unfoldable pub action_told : ℕ → ℕ → Action → TfmsetPair
action_told left right (Kern amount) =
    record { left = left; right = right; action = 1; kern = amount; code = 0; keep_left = 0; keep_right = 0; pass = 0 }
action_told left right (Lig code keep_left keep_right pass) = record {
  left = left;
  right = right;
  action = 2;
  kern = pos 0;
  code = code;
  keep_left = flag keep_left;
  keep_right = flag keep_right;
  pass = pass;
}

-- a pair of neighbours and their action
unfoldable pub pair_told : Pair → TfmsetPair
pair_told pair = action_told (symbol_number pair.left) (symbol_number pair.right) pair.action

-- the pairs of a font that have an action, in order
unfoldable pub pairs_told : FontValue → List TfmsetPair
pairs_told font = map pair_told (pairs_of font)
