-- A line that is being set: the steps and items of the portions so far, and of the next ones after them.
-- This project's own representation of the setting of all portions (defined in Answer).
use Rattle.std.specs.Prelude.{◌≡◌, ℕ, ◌+◌, ◌*◌, ◌≤◌, true, List, [], ◌∷◌, ◌++◌, length, Option, Some, None}
use Rattle.std.specs.Option.{option_and_then}
use Rattle.tfm_tables.specs.Font.{FontValue}
use Rattle.lig_kern.specs.declared.item.Item.{Item}
use Rattle.lig_kern.specs.Result.{Setting}
use Rattle.set_line.specs.Pieces.{Portion, IsRun, is_cut}
use Rattle.set_line.specs.Answer.{setting_of, within_limit}

-- the setting with these steps and items
abbrev pub setting : ℕ → List Item → Setting
setting steps items = record { steps = steps; items = items }

-- one more setting after the one so far, if both together are within the limit
abbrev pub added : ℕ → Setting → Option Setting → Option Setting
added limit so_far more =
    option_and_then (λ one. within_limit limit (setting (so_far.steps + one.steps) (so_far.items ++ one.items))) more

-- the setting of these portions after the one so far
unfoldable pub onward : FontValue → ℕ → Setting → List Portion → Option Setting
onward font limit so_far [] = Some so_far
onward font limit so_far (portion ∷ portions) =
    option_and_then (λ next. onward font limit next portions) (added limit so_far (setting_of font limit portion))

-- the return value of a function that sets portions: the number of steps, with the items in the list; or
-- `None`, if the steps are above the limit
abbrev pub Reaches : Option Setting → Option ℕ → List Item → Type 0
Reaches setting_or_none (Some steps) items = setting_or_none ≡ Some (setting steps items)
Reaches setting_or_none None items = setting_or_none ≡ None

-- at most two items were appended for each further step, and one for each byte
abbrev pub AreFew : ℕ → List Item → List ℕ → List Item → ℕ → Type 0
AreFew used before bytes after steps = length after + 2 * used ≤ length before + 2 * steps + length bytes

-- a line that is cut for the first time at this byte, the run before it, and the bytes after it
pub record IsFirstCut (font : FontValue) (line run : List ℕ) (cut : ℕ) (rest : List ℕ) : Type 0 where
  pub whole : line ≡ run ++ cut ∷ rest
  pub before : IsRun font run
  pub here : is_cut font cut ≡ true
