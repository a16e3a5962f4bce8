-- The result of a run: the number of steps that lead to a final configuration, and the items of that
-- configuration.
-- Public source: The METAFONTbook, Appendix F; the limit on steps is this project's own.
use Rattle.std.specs.Prelude.{◌≡◌, ℕ, ◌+◌, ◌*◌, ◌≤◌, Bool, List, ◌++◌, length, Option, Some, None, is_some}
use Rattle.std.specs.List.{find, range_with_len}
use Rattle.std.specs.Option.{option_and_then, option_map}
use Rattle.tfm_words.specs.Appending.{StaysInFront}
use Rattle.tfm_tables.specs.Font.{FontValue}
use Rattle.lig_kern.specs.declared.symbol.Symbol.{Symbol}
use Rattle.lig_kern.specs.declared.item.Item.{Item}
use Rattle.lig_kern.specs.Rewriting.{symbols_of, opening, after_steps, final_items}

-- the items of a list of symbols if exactly this many steps lead from its opening configuration to a final
-- one, and none otherwise
unfoldable pub result_from : FontValue → List Symbol → ℕ → Option (List Item)
result_from font symbols n = option_and_then (final_items font) (after_steps font n (opening symbols))

-- the items of a run with the left boundary after exactly this many steps
abbrev pub result_after : FontValue → List ℕ → Bool → ℕ → Option (List Item)
result_after font run right = result_from font (symbols_of font run right)

-- a result of a run: the number of steps that lead to a final configuration, and the items of that
-- configuration
pub record Setting : Type 0 where
  pub steps : ℕ
  pub items : List Item

-- this setting is a result of a list of symbols
abbrev pub IsResultFrom : FontValue → List Symbol → Setting → Type 0
IsResultFrom font symbols setting = result_from font symbols setting.steps ≡ Some setting.items

-- this setting is a result of the run
abbrev pub IsResultOf : FontValue → List ℕ → Bool → Setting → Type 0
IsResultOf font run right = IsResultFrom font (symbols_of font run right)

-- a list of symbols has no result within this many steps
abbrev pub HasNoResultFrom : FontValue → List Symbol → ℕ → Type 0
HasNoResultFrom font symbols limit = (n : ℕ) → n ≤ limit → result_from font symbols n ≡ None

-- the run has no result within this many steps
abbrev pub HasNoResultWithin : FontValue → List ℕ → Bool → ℕ → Type 0
HasNoResultWithin font run right = HasNoResultFrom font (symbols_of font run right)

-- the result of a list of symbols after exactly this many steps, if it has one
abbrev pub setting_from : FontValue → List Symbol → ℕ → Option Setting
setting_from font symbols n = option_map (λ items. record { steps = n; items = items }) (result_from font symbols n)

-- the result of a list of symbols within a limit: the one with the fewest steps from 0 to the limit, if there is
-- any
unfoldable pub result_within : FontValue → List Symbol → ℕ → Option Setting
result_within font symbols limit =
    option_and_then (setting_from font symbols) (find (λ n. is_some (result_from font symbols n)) (range_with_len 0 (limit + 1)))

-- the result of a run with the left boundary within a limit
abbrev pub result_of : FontValue → List ℕ → Bool → ℕ → Option Setting
result_of font run right = result_within font (symbols_of font run right)

-- the run has a result with this many steps, no more than the limit, and its items were appended to a list
pub record IsAppendedResult (font : FontValue) (run : List ℕ) (right : Bool) (limit : ℕ) (before after : List Item) (steps : ℕ) : Type 0 where
  pub items : List Item
  pub result : result_after font run right steps ≡ Some items
  pub within : steps ≤ limit
  pub appended : after ≡ before ++ items

-- a run with this many steps, no more than the limit, appended at most two items for each step, and one more
pub record HasFew {O : Type 0} (steps limit : ℕ) (before after : List O) : Type 0 where
  pub within : steps ≤ limit
  pub front : StaysInFront before after
  pub few : length after ≤ length before + 2 * steps + 1
