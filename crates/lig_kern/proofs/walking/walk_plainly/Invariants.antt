use Rattle.std.proofs.Common.{◌+◌, ◌*◌, ◌≤◌, Bool, length, drop}
use Rattle.tfm_tables.specs.Font.{FontValue}
use Rattle.tfm_words.specs.Appending.{StaysInFront}
use Rattle.lig_kern.specs.Places.{codes_ahead}
use Rattle.lig_kern.specs.Walking.{HasMoved}
use Rattle.lig_kern.proofs.walking.walk_plainly.Given as goal

abbrev pub invariant-loop-used : goal.invariant-loop-used
invariant-loop-used g l = record {
  front : StaysInFront l.fn.out.items l.out.items;
  few : length l.out.items ≤ length l.fn.out.items + 2 * l.used;
  moved : (value : FontValue) → g.F.WordFont.is_of l.font value → (stands : Bool)
      → HasMoved g.O.RunItem.made value l.used l.run.first (codes_ahead l.run.codes.now l.run.at l.run.hyphen stands)
      l.current (codes_ahead (drop l.used l.run.codes.now) (l.run.at + l.used) l.run.hyphen stands) l.fn.out.items l.out.items;
}
