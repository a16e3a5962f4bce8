-- How a run is set: a list of elements with a cursor is rewritten, one step at a time, until the cursor is at
-- the last element.
-- Public source: The METAFONTbook, Appendix F; see also tex.web, sections 906 to 911 and 1034 to 1040. The
-- rule for what counts as a step, and the choice to leave out the right boundary, are this project's own.
use Rattle.std.specs.Prelude.{ℕ, zero, suc, ◌+◌, nat_le, Bool, true, false, ℤ, pos, List, [], ◌∷◌, ◌++◌, length, map, take, drop, Option, Some, None, if◌then◌else◌}
use Rattle.std.specs.List.{filter_map, slice_get}
use Rattle.std.specs.Option.{option_and_then, option_map, option_map_or}
use Rattle.tfm_tables.specs.Font.{FontValue}
use Rattle.tfm_tables.specs.Character.{metrics_of}
use Rattle.tfm_tables.specs.Program.{program_of, right_code_of}
use Rattle.lig_kern.specs.declared.symbol.Symbol.{Symbol}
use Rattle.lig_kern.specs.declared.symbol.Symbol.TheVariants.{Left, Char, Right}
use Rattle.lig_kern.specs.declared.action.Action.{Action}
use Rattle.lig_kern.specs.declared.action.Action.TheVariants.{Kern, Lig}
use Rattle.lig_kern.specs.declared.item.Item.{Item}
use Rattle.lig_kern.specs.declared.item.Item.TheVariants.{Char as CharItem, Kern as KernItem}
use Rattle.lig_kern.specs.Matching.{action_between}

-- an element of a run that is being set: a symbol (a boundary or a character), or a kern with its amount
pub data Element : Type 0 where
  of_symbol : Symbol → Element
  of_kern : ℤ → Element

-- a run that is being set: its elements, and the index of the current element, from 0
pub record Configuration : Type 0 where
  pub elements : List Element
  pub cursor : ℕ

-- the end of a run: the right boundary if it is requested and the font has a right boundary character, and
-- nothing otherwise
unfoldable pub right_end : FontValue → Bool → List Symbol
right_end font right = if right then option_map_or (λ _. Right ∷ []) (right_code_of (program_of font.words)) [] else []

-- the symbols of a run: the left boundary if `left` is true, the characters, and the end of the run
abbrev pub symbols_with : FontValue → Bool → List ℕ → Bool → List Symbol
symbols_with font left run right = (if left then Left ∷ [] else []) ++ map Char run ++ right_end font right

-- the symbols of a run that has the left boundary
abbrev pub symbols_of : FontValue → List ℕ → Bool → List Symbol
symbols_of font run right = symbols_with font true run right

-- the configuration of a list of symbols before its first step: the first symbol is current
unfoldable pub opening : List Symbol → Configuration
opening symbols = record { elements = map of_symbol symbols; cursor = 0 }

-- the action of the font's program between two elements; next to a kern there is none
abbrev pub action_at : FontValue → Element → Element → Option Action
action_at font (of_symbol current) (of_symbol next) = action_between font current next
action_at font (of_symbol current) (of_kern amount) = None
action_at font (of_kern amount) next = None

-- the replacement of two neighbours: the new elements, and how many of these the cursor passes over
pub record Splice : Type 0 where
  pub elements : List Element
  pub pass : ℕ

-- the element alone if it is kept, and nothing if it is deleted
abbrev pub kept : Bool → Element → List Element
kept true element = element ∷ []
kept false element = []

-- the replacement of two neighbours by an action: without one both are kept, and the next one becomes
-- current; a kern is inserted between the two, and the next one becomes current; a ligature inserts its
-- character between the two, keeps or deletes each of them, and moves the cursor past as many elements as its
-- operation requires
abbrev pub splice_by : Option Action → Element → Element → Splice
splice_by None current next = record { elements = current ∷ next ∷ []; pass = 1 }
splice_by (Some (Kern amount)) current next = record { elements = current ∷ of_kern amount ∷ next ∷ []; pass = 2 }
splice_by (Some (Lig code keep_left keep_right pass)) current next =
    record { elements = kept keep_left current ++ of_symbol (Char code) ∷ kept keep_right next; pass = pass }

-- the configuration in which the current element and the next one are replaced
abbrev pub spliced : Configuration → Splice → Configuration
spliced c splice = record {
  elements = take c.cursor c.elements ++ splice.elements ++ drop (c.cursor + 2) c.elements;
  cursor = c.cursor + splice.pass;
}

-- the configuration after one step; there is none if the current element is the last one
unfoldable pub step_from : FontValue → Configuration → Option Configuration
step_from font c =
    option_and_then
    (λ current. option_map (λ next. spliced c (splice_by (action_at font current next) current next)) (slice_get c.elements (c.cursor + 1)))
    (slice_get c.elements c.cursor)

-- the configuration after this many steps, if that many steps can be made
unfoldable pub after_steps : FontValue → ℕ → Configuration → Option Configuration
after_steps font zero c = Some c
after_steps font (suc n) c = option_and_then (after_steps font n) (step_from font c)

-- a configuration is final if no element follows the current one; a list without elements is final
abbrev pub is_final : Configuration → Bool
is_final c = nat_le (length c.elements) (c.cursor + 1)

-- the width of a character, in scaled points (sp); 0 for a code that doesn't exist
abbrev pub character_width : FontValue → ℕ → ℤ
character_width font code = option_map_or (λ metrics. metrics.width) (metrics_of font.words font.size code) (pos 0)

-- the item of an element in the result; a boundary has none
abbrev pub item_of : FontValue → Element → Option Item
item_of font (of_symbol Left) = None
item_of font (of_symbol (Char code)) = Some (CharItem code (character_width font code))
item_of font (of_symbol Right) = None
item_of font (of_kern amount) = Some (KernItem amount)

-- the items of a list of elements
unfoldable pub items_of : FontValue → List Element → List Item
items_of font elements = filter_map (item_of font) elements

-- the items of a final configuration; none for any other configuration
abbrev pub final_items : FontValue → Configuration → Option (List Item)
final_items font c = if is_final c then Some (items_of font c.elements) else None
