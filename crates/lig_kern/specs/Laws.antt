-- Laws of the rewriting, stated with its definitions. This project's own, about the rewriting of The
-- METAFONTbook, Appendix F.
use Rattle.std.specs.Prelude.{◌≡◌, ℕ, ◌+◌, ◌*◌, ◌≤◌, Bool, List, length, map, Some, None}
use Rattle.std.specs.List.{slice_get}
use Rattle.tfm_tables.specs.Font.{FontValue}
use Rattle.lig_kern.specs.declared.symbol.Symbol.{Symbol}
use Rattle.lig_kern.specs.declared.item.Item.{Item}
use Rattle.lig_kern.specs.declared.item.Item.TheVariants.{Char as CharItem}
use Rattle.lig_kern.specs.Matching.{action_between}
use Rattle.lig_kern.specs.Rewriting.{character_width, right_end, symbols_of}
use Rattle.lig_kern.specs.Result.{Setting, IsResultFrom, IsResultOf, HasNoResultFrom, result_within}

-- a run has at most one result
abbrev pub HasOneResult : FontValue → List ℕ → Bool → Type 0
HasOneResult font run right = (a b : Setting) → IsResultOf font run right a → IsResultOf font run right b → a ≡ b

-- the result within a limit is the result of the symbols if that takes no more steps than the limit; otherwise
-- there is none
pub record FindsResultFrom (font : FontValue) (symbols : List Symbol) (limit : ℕ) : Type 0 where
  pub found : (setting : Setting) → IsResultFrom font symbols setting → setting.steps ≤ limit → result_within font symbols limit ≡ Some setting
  pub is_result : (setting : Setting) → result_within font symbols limit ≡ Some setting → IsResultFrom font symbols setting × (setting.steps ≤ limit)
  pub none : HasNoResultFrom font symbols limit → result_within font symbols limit ≡ None
  pub none_within : result_within font symbols limit ≡ None → HasNoResultFrom font symbols limit

-- the same for a run with the left boundary
abbrev pub FindsResult : FontValue → List ℕ → Bool → ℕ → Type 0
FindsResult font run right = FindsResultFrom font (symbols_of font run right)

-- the font's program has no match for any two neighbours in a list of symbols
abbrev pub HasNoMatches : FontValue → List Symbol → Type 0
HasNoMatches font symbols =
    (i : ℕ) (left right : Symbol) → slice_get symbols i ≡ Some left → slice_get symbols (i + 1) ≡ Some right → action_between font left right ≡ None

-- the characters of a run as items, each with its width
abbrev pub plain_items : FontValue → List ℕ → List Item
plain_items font run = map (λ code. CharItem code (character_width font code)) run

-- a run in which no two neighbours match is set as itself, with one step for each character, and one more if
-- the right boundary follows the run
abbrev pub SetsAsItself : FontValue → List ℕ → Bool → Type 0
SetsAsItself font run right =
    HasNoMatches font (symbols_of font run right)
    → IsResultOf font run right (record { steps = length run + length (right_end font right); items = plain_items font run })

-- a result has at most two items for each step, and one more
abbrev pub HasFewItems : FontValue → List ℕ → Bool → Type 0
HasFewItems font run right = (setting : Setting) → IsResultOf font run right setting → length setting.items ≤ 2 * setting.steps + 1
