-- The results of the lines of a text, as C gets them.
-- This project's own; the results are defined in Options.
use Rattle.std.specs.Prelude.{ℕ, pos, ◌+◌, List, [], ◌∷◌, length, map, flat_map}
use Rattle.tfmset_c.specs.Arrays.{held}
use Rattle.lig_kern.specs.declared.item.Item.{Item}
use Rattle.lig_kern.specs.declared.item.Item.TheVariants.{Char, Kern, Space, Skipped}
use Rattle.set_line.specs.declared.outcome.LineRefusal.TheVariants.{TooLong, Missing, Steps}
use Rattle.set_line.specs.declared.outcome.Outcome.{Outcome}
use Rattle.set_line.specs.declared.outcome.Outcome.TheVariants.{Set, Refused}
use Rattle.tfmset_c.specs.declared.lines.TfmsetItem.{TfmsetItem}
use Rattle.tfmset_c.specs.declared.lines.TfmsetLine.{TfmsetLine}

-- an item: its kind, its code, or 0 if it has none, and its width
unfoldable pub item_told : Item → TfmsetItem
item_told (Char code width) = record { kind = 0; code = code; width = width }
item_told (Kern amount) = record { kind = 1; code = 0; width = amount }
item_told (Space amount) = record { kind = 2; code = 0; width = amount }
item_told (Skipped code) = record { kind = 3; code = code; width = pos 0 }

-- the items of a line; a refused line has none
unfoldable pub items_in : Outcome → List Item
items_in (Set items width steps) = items
items_in (Refused refusal) = []

-- the result of a line or a span that is refused
abbrev pub refused_with : ℕ → ℕ → ℕ → ℕ → ℕ → TfmsetLine
refused_with first refusal place steps code =
    record { width = pos 0; first = first; count = 0; place = place; steps = steps; refusal = refusal; code = code }

-- the result of a line; its first item has this index
unfoldable pub line_told : ℕ → Outcome → TfmsetLine
line_told first (Set items width steps) =
    record { width = width; first = first; count = length items; place = 0; steps = steps; refusal = 0; code = 0 }
line_told first (Refused (Missing offset code)) = refused_with first 1 offset 0 code
line_told first (Refused (TooLong bytes)) = refused_with first 2 bytes 0 0
line_told first (Refused (Steps limit)) = refused_with first 3 0 limit 0

-- the results of lines; this many items precede the items of the first line
unfoldable pub lines_told : ℕ → List Outcome → List TfmsetLine
lines_told before [] = []
lines_told before (outcome ∷ outcomes) =
    line_told (held before) outcome ∷ lines_told (before + length (items_in outcome)) outcomes

-- the items of all lines, in order
unfoldable pub items_told : List Outcome → List TfmsetItem
items_told outcomes = map item_told (flat_map items_in outcomes)
