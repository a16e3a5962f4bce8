-- What each byte of a line adds to the setting of the line, if the byte and the symbol before it are enough
-- to decide this.
-- Public source: The METAFONTbook, Appendix F, for the rules. To set a line byte by byte is this project's
-- own; the lemma line_set states that a line which is set in this way has the setting that set_line defines.
use Rattle.std.specs.Prelude.{ℕ, ℤ, pos, ◌+◌, ◌+ℤ◌, ◌≤ℤ◌, ◌==◌, ◌&&◌, Bool, true, false, List, [], ◌∷◌, ◌++◌, Option, Some, None, is_some, if◌then◌else◌}
use Rattle.std.specs.Option.{option_and_then, option_map}
use Rattle.run_plan.specs.declared.policy.Policy.{Policy}
use Rattle.run_plan.specs.declared.policy.Policy.TheVariants.{Refuse, Skip}
use Rattle.tfm_tables.specs.Font.{FontValue}
use Rattle.tfm_tables.specs.Character.{exists}
use Rattle.tfm_tables.specs.Measure.{parameter_of}
use Rattle.tfm_tables.specs.Program.{program_of, right_code_of}
use Rattle.lig_kern.specs.declared.symbol.Symbol.{Symbol}
use Rattle.lig_kern.specs.declared.symbol.Symbol.TheVariants.{Left, Char, Right}
use Rattle.lig_kern.specs.declared.action.Action.{Action}
use Rattle.lig_kern.specs.declared.plainly.Plain.{Plain}
use Rattle.lig_kern.specs.declared.plainly.Plain.TheVariants.{Passes, Replaces}
use Rattle.lig_kern.specs.declared.item.Item.{Item}
use Rattle.lig_kern.specs.declared.item.Item.TheVariants.{Space, Skipped}
use Rattle.lig_kern.specs.Matching.{action_between}
use Rattle.lig_kern.specs.Plain.{plain_next, plain_of, plain_sent}
use Rattle.lig_kern.specs.Rewriting.{of_symbol, items_of}
use Rattle.lig_kern.specs.Result.{Setting}
use Rattle.set_line.specs.Onward.{setting}
use Rattle.set_line.specs.Pieces.{is_space}

-- an amount in sp differs from 0 by at most this number
abbrev pub IsWithin : ℕ → ℤ → Type 0
IsWithin most amount = (pos 0 ≤ℤ (amount +ℤ pos most)) × (amount ≤ℤ pos most)

-- what is added to a line: steps and items, and the symbol that is current afterwards
pub record Addition : Type 0 where
  pub steps : ℕ
  pub items : List Item
  pub current : Symbol

-- an addition that is defined only if missing characters are skipped
abbrev pub skip_by : Policy → Option Addition → Option Addition
skip_by Refuse added = None
skip_by Skip added = added

-- one step, with these items, after which this symbol is current
abbrev pub one_step : List Item → Symbol → Addition
one_step items current = record { steps = 1; items = items; current = current }

-- what the step from the current symbol to a next one adds, if this is the action between them: the items of what a
-- plain action passes. Not defined for any other ligature: a further action may apply to a neighbour that it keeps
abbrev pub step_by : FontValue → Option Action → Symbol → Symbol → Option Addition
step_by font action current next =
    option_map (λ plain. one_step (items_of font (plain_sent plain current)) (plain_next plain next)) (plain_of action)

-- what a plain action adds at the right boundary. Not defined for a ligature
abbrev pub ended_by : FontValue → Symbol → Plain → Option Addition
ended_by font current (Passes kern) = Some (one_step (items_of font (plain_sent (Passes kern) current)) Right)
ended_by font current (Replaces code) = None

-- what the step from the current symbol to the right boundary adds, if this is the action between them
abbrev pub boundary_by : FontValue → Option Action → Symbol → Option Addition
boundary_by font action current = option_and_then (ended_by font current) (plain_of action)

-- what the end of a run adds: nothing if the run is empty; otherwise the item of the current symbol, and if
-- the font has a right boundary that may follow the run, the step to it
unfoldable pub ending_of : FontValue → Bool → Symbol → Option Addition
ending_of font right Left = Some (record { steps = 0; items = []; current = Left })
ending_of font right Right = None
ending_of font right (Char code) =
    if right && is_some (right_code_of (program_of font.words))
    then boundary_by font (action_between font (Char code) Right) (Char code)
    else Some (record { steps = 0; items = items_of font (of_symbol (Char code) ∷ []); current = Char code })

-- what the end of a run adds together with an item after it; the left boundary of the next run is current then
abbrev pub with_cut : Item → Addition → Addition
with_cut cut ending = record {
  steps = ending.steps;
  items = ending.items ++ cut ∷ [];
  current = Left;
}

-- what a byte adds that ends a run and has this item
unfoldable pub cut_added : FontValue → Bool → Item → Symbol → Option Addition
cut_added font right cut current = option_map (with_cut cut) (ending_of font right current)

-- what a byte adds: a character, a space, or, if missing characters are skipped, a skipped byte, which the right
-- boundary doesn't precede. Not defined for a byte that is refused
unfoldable pub byte_added : FontValue → Policy → Symbol → ℕ → Option Addition
byte_added font policy current byte =
    if is_space byte then cut_added font true (Space (parameter_of font.words font.size 2)) current
    else (if exists font.words byte then step_by font (action_between font current (Char byte)) current (Char byte)
    else skip_by policy (cut_added font false (Skipped byte) current))

-- what a byte adds, or, for the number 256, the end of the line
unfoldable pub added_of : FontValue → Policy → Symbol → ℕ → Option Addition
added_of font policy current next = if next == 256 then ending_of font true current else byte_added font policy current next

-- a setting with an addition in front of it
abbrev pub after : Addition → Setting → Setting
after added more = setting (added.steps + more.steps) (added.items ++ more.items)

-- the setting of an addition
abbrev pub alone : Addition → Setting
alone added = setting added.steps added.items

-- the setting of the rest of a line in which this symbol is current, if what each byte adds is defined
unfoldable pub set_from : FontValue → Policy → Symbol → List ℕ → Option Setting
set_from font policy current [] = option_map alone (ending_of font true current)
set_from font policy current (byte ∷ bytes) =
    option_and_then (λ added. option_map (after added) (set_from font policy added.current bytes)) (byte_added font policy current byte)
