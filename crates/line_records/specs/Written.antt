-- How far a line is written. This project's own.
use Rattle.std.specs.Prelude.{◌≡◌, ℕ, ◌+◌, ◌*◌, ◌<◌, ◌≤◌, ◌^◌, pos, ◌+ℤ◌, ◌≤ℤ◌, List, ◌++◌, length, take, flat_map, Some}
use Rattle.std.specs.Option.{option_map}
use Rattle.lig_kern.specs.declared.symbol.Symbol.TheVariants.{Left}
use Rattle.lig_kern.specs.Result.{Setting}
use Rattle.set_line.specs.Onward.{setting}
use Rattle.set_line.specs.Width.{total_width}
use Rattle.line_records.specs.Additions.{Addition, added_of, set_from}
use Rattle.line_records.specs.Boxes.{item_text}
use Rattle.line_records.specs.Cells.{Style, symbol_of, total_tally}
use Rattle.line_records.specs.declared.line_state.LineState.{LineState}

-- what a byte adds, or the end of the line (256), was written after the text that was there before
pub record IsStep (style : Style) (before : LineState) (next : ℕ) (old new : List ℕ) (after : LineState) : Type 0 where
  pub added : Addition
  pub is : added_of style.font style.policy (symbol_of style.font before.row) next ≡ Some added
  pub row : next < 256 → symbol_of style.font after.row ≡ added.current
  pub text : take after.length new ≡ take before.length old ++ flat_map (item_text style.format) added.items
  pub width : after.width ≡ before.width +ℤ total_width added.items
  pub steps : after.steps ≡ before.steps + added.steps
  pub tally : after.tally ≡ before.tally + total_tally added.items
  pub few : length added.items ≤ 3

-- two settings, one after the other
abbrev pub joined : Setting → Setting → Setting
joined set more = setting (set.steps + more.steps) (set.items ++ more.items)

-- a line is written up to one of its bytes, and `rest` is still to be written
pub record IsWritten (style : Style) (line rest room : List ℕ) (so_far : LineState) : Type 0 where
  pub set : Setting
  pub onward : set_from style.font style.policy Left line ≡ option_map (joined set) (set_from style.font style.policy (symbol_of style.font so_far.row) rest)
  pub text : take so_far.length room ≡ flat_map (item_text style.format) set.items
  pub width : so_far.width ≡ total_width set.items
  pub steps : so_far.steps ≡ set.steps
  pub tally : so_far.tally ≡ total_tally set.items
  pub few : length set.items + 3 * length rest ≤ 3 * length line

-- the row is one of the table, and each sum is within a bound that grows with this number of bytes, so that
-- no addition overflows
pub record IsSmall (bytes : ℕ) (so_far : LineState) : Type 0 where
  pub row : so_far.row < 256
  pub steps : so_far.steps ≤ bytes
  pub tally : so_far.tally ≤ 2 ^ 34 * bytes
  pub low : pos 0 ≤ℤ (so_far.width +ℤ pos (2 ^ 40 * bytes))
  pub high : so_far.width ≤ℤ pos (2 ^ 40 * bytes)

-- a step increases the sums by at most what a byte can add
pub record IsNext (before after : LineState) : Type 0 where
  pub row : after.row < 256
  pub steps : after.steps ≤ before.steps + 1
  pub tally : after.tally ≤ before.tally + 2 ^ 34
  pub low : before.width ≤ℤ (after.width +ℤ pos (2 ^ 40))
  pub high : after.width ≤ℤ (before.width +ℤ pos (2 ^ 40))

-- a whole line is written: the text of the items of its setting, their width and tally, and its steps
pub record IsWhole (style : Style) (line room : List ℕ) (whole : LineState) : Type 0 where
  pub set : Setting
  pub is : set_from style.font style.policy Left line ≡ Some set
  pub text : take whole.length room ≡ flat_map (item_text style.format) set.items
  pub width : whole.width ≡ total_width set.items
  pub steps : whole.steps ≡ set.steps
  pub tally : whole.tally ≡ total_tally set.items
  pub few : length set.items ≤ 3 * length line + 3
