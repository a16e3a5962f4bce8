-- The width of items, in sp.
-- This project's own.
use Rattle.std.specs.Prelude.{ℤ, pos, ◌+ℤ◌, List, [], ◌∷◌}
use Rattle.lig_kern.specs.declared.item.Item.{Item}
use Rattle.lig_kern.specs.declared.item.Item.TheVariants.{Char, Kern, Space, Skipped}

-- the amount of an item: the width of a character or space, or the amount of a kern; a skipped byte adds 0
abbrev pub amount_of : Item → ℤ
amount_of (Char code width) = width
amount_of (Kern amount) = amount
amount_of (Space amount) = amount
amount_of (Skipped code) = pos 0

-- the sum of the amounts
abbrev pub total_width : List Item → ℤ
total_width [] = pos 0
total_width (item ∷ items) = amount_of item +ℤ total_width items
