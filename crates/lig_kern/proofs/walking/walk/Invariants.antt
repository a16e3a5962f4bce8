use Rattle.std.proofs.Common.{◌+◌, ◌-◌, ◌*◌, ◌≤◌, List, length}
use Rattle.tfm_tables.specs.Font.{FontValue}
use Rattle.tfm_words.specs.Appending.{StaysInFront}
use Rattle.lig_kern.specs.declared.placed_symbol.PlacedSymbol.{PlacedSymbol}
use Rattle.lig_kern.specs.Walking.{HasMoved}
use Rattle.lig_kern.proofs.walking.walk.Given as goal

abbrev pub invariant-loop-next : goal.invariant-loop-next
invariant-loop-next g l = record {
  within : l.used ≤ l.steps_left;
  front : StaysInFront l.fn.out.items l.out.items;
  few : length l.out.items + 2 * l.fn.reached.steps ≤ length l.fn.out.items + 2 * l.used;
  moved : (value : FontValue) → g.F.WordFont.is_of l.font value → (first : PlacedSymbol) (symbols : List PlacedSymbol) (before : _)
      → HasMoved g.O.RunItem.made value l.fn.reached.steps first symbols l.fn.reached.current l.fn.ahead before l.fn.out.items
      → HasMoved g.O.RunItem.made value l.used first symbols l.current l.ahead before l.out.items;
}

abbrev pub decreases-loop-next : goal.decreases-loop-next
decreases-loop-next g l = l.steps_left - l.used
