-- A run that is set as in Rewriting, in which each element carries the range of the bytes of a text that it comes
-- from.
-- Public source: The METAFONTbook, Appendix F, for the rewriting. The ranges are this project's own.
use Rattle.std.specs.Prelude.{◌≡◌, ◌≤◌, ℕ, zero, suc, ◌+◌, nat_le, Bool, true, false, ◌&&◌, List, [], ◌∷◌, ◌++◌, length, map, take, drop, Option, Some, None, is_some, if◌then◌else◌}
use Rattle.std.specs.List.{filter_map, slice_get}
use Rattle.std.specs.Option.{option_and_then, option_map, option_map_or}
use Rattle.tfm_tables.specs.Font.{FontValue}
use Rattle.tfm_tables.specs.Program.{program_of, right_code_of}
use Rattle.lig_kern.specs.declared.symbol.Symbol.{Symbol}
use Rattle.lig_kern.specs.declared.symbol.Symbol.TheVariants.{Left, Char, Right}
use Rattle.lig_kern.specs.declared.action.Action.{Action}
use Rattle.lig_kern.specs.declared.action.Action.TheVariants.{Kern, Lig}
use Rattle.lig_kern.specs.declared.ends.Ends.{Ends}
use Rattle.lig_kern.specs.declared.item.Item.{Item}
use Rattle.lig_kern.specs.declared.byte_range.ByteRange.{ByteRange}
use Rattle.lig_kern.specs.declared.placed_symbol.PlacedSymbol.{PlacedSymbol}
use Rattle.lig_kern.specs.Rewriting.{Configuration, Element, of_symbol, of_kern, action_at, splice_by, item_of, symbols_with}

-- an element of a run, with the bytes that it comes from
pub record PlacedElement : Type 0 where
  pub element : Element
  pub place : ByteRange

-- a run that is being set: its elements with their places, and the index of the current element, from 0
pub record PlacedConfiguration : Type 0 where
  pub elements : List PlacedElement
  pub cursor : ℕ

-- ---- the run before its first step

-- a symbol that comes from the bytes from `start` to before `end`
abbrev pub placed : Symbol → ℕ → ℕ → PlacedSymbol
placed symbol start end = record { symbol = symbol; place = record { start = start; end = end } }

-- the left boundary at this offset, if `left` is true
abbrev pub left_at : ℕ → Bool → List PlacedSymbol
left_at offset true = placed Left offset offset ∷ []
left_at offset false = []

-- the right boundary at this offset, if `right` is true
abbrev pub end_at : ℕ → Bool → List PlacedSymbol
end_at offset true = placed Right offset offset ∷ []
end_at offset false = []

-- codes of which the first is at this offset, each from its own byte; then, from no byte, the hyphen, if there is one, and
-- the right boundary, if `right` is true
abbrev pub codes_ahead : List ℕ → ℕ → Option ℕ → Bool → List PlacedSymbol
codes_ahead [] offset None right = end_at offset right
codes_ahead [] offset (Some code) right = placed (Char code) offset offset ∷ end_at offset right
codes_ahead (code ∷ codes) offset hyphen right = placed (Char code) offset (offset + 1) ∷ codes_ahead codes (offset + 1) hyphen right

-- the symbols of a run of these codes with these ends; the right boundary is the last one if `right` is true
abbrev pub symbols_at : List ℕ → Ends → Bool → List PlacedSymbol
symbols_at codes ends right = left_at ends.offset ends.left ++ codes_ahead codes ends.offset ends.hyphen right

-- whether the right boundary follows a run: it is requested, and the font has a right boundary character
abbrev pub has_end : FontValue → Bool → Bool
has_end font right = right && is_some (right_code_of (program_of font.words))

-- a symbol as an element
abbrev pub placed_of : PlacedSymbol → PlacedElement
placed_of one = record { element = of_symbol one.symbol; place = one.place }

-- the elements of a run of these codes with these ends
unfoldable pub placed_run : FontValue → List ℕ → Ends → List PlacedElement
placed_run font codes ends = map placed_of (symbols_at codes ends (has_end font ends.right))

-- the hyphen code alone, and nothing if there is none
abbrev pub hyphen_codes : Option ℕ → List ℕ
hyphen_codes hyphen = option_map_or (λ code. code ∷ []) hyphen []

-- the symbols of a run of these codes with these ends
abbrev pub run_symbols : FontValue → List ℕ → Ends → List Symbol
run_symbols font codes ends = symbols_with font ends.left (codes ++ hyphen_codes ends.hyphen) ends.right

-- ---- a step

-- the empty range before a place
abbrev pub before : ByteRange → ByteRange
before next = record { start = next.start; end = next.start }

-- the place of a character that a ligature inserts between two neighbours, which it keeps or deletes: from
-- the start of the first one that it deletes to the end of the last one, and if it deletes none, the empty
-- range before the right one
abbrev pub inserted_place : Bool → Bool → ByteRange → ByteRange → ByteRange
inserted_place false false current next = record { start = current.start; end = next.end }
inserted_place false true current next = current
inserted_place true false current next = next
inserted_place true true current next = before next

-- the element alone if it is kept, and nothing if it is deleted
abbrev pub kept : Bool → PlacedElement → List PlacedElement
kept true one = one ∷ []
kept false one = []

-- the elements that an action puts in the place of two neighbours, which keep their places; a kern comes from
-- the empty range before the right neighbour
abbrev pub placed_by : Option Action → PlacedElement → PlacedElement → List PlacedElement
placed_by None current next = current ∷ next ∷ []
placed_by (Some (Kern amount)) current next = current ∷ record { element = of_kern amount; place = before next.place } ∷ next ∷ []
placed_by (Some (Lig code keep_left keep_right pass)) current next =
    kept keep_left current
    ++ record { element = of_symbol (Char code); place = inserted_place keep_left keep_right current.place next.place }
    ∷ kept keep_right next

-- the configuration in which an action replaces the current element and the next one; the cursor passes as
-- many elements as in the rewriting without places
abbrev pub replaced : PlacedConfiguration → Option Action → PlacedElement → PlacedElement → PlacedConfiguration
replaced c action current next = record {
  elements = take c.cursor c.elements ++ placed_by action current next ++ drop (c.cursor + 2) c.elements;
  cursor = c.cursor + (splice_by action current.element next.element).pass;
}

-- the configuration after one step; there is none if the current element is the last one
unfoldable pub placed_step : FontValue → PlacedConfiguration → Option PlacedConfiguration
placed_step font c =
    option_and_then
    (λ current. option_map (λ next. replaced c (action_at font current.element next.element) current next) (slice_get c.elements (c.cursor + 1)))
    (slice_get c.elements c.cursor)

-- the configuration after this many steps, if that many steps can be made
unfoldable pub placed_after : FontValue → ℕ → PlacedConfiguration → Option PlacedConfiguration
placed_after font zero c = Some c
placed_after font (suc n) c = option_and_then (placed_after font n) (placed_step font c)

-- ---- the result, of items that keep what `made` makes of an item and its place

-- what is kept of the item of an element; a boundary has none
abbrev pub placed_item : {O : Type 0} → (Item → ByteRange → O) → FontValue → PlacedElement → Option O
placed_item made font one = option_map (λ item. made item one.place) (item_of font one.element)

-- the items of a list of elements
unfoldable pub placed_items : {O : Type 0} → (Item → ByteRange → O) → FontValue → List PlacedElement → List O
placed_items made font elements = filter_map (placed_item made font) elements

-- a configuration is final if no element follows the current one; a list without elements is final
abbrev pub is_final : PlacedConfiguration → Bool
is_final c = nat_le (length c.elements) (c.cursor + 1)

-- the items of a final configuration; none for any other configuration
abbrev pub final_places : {O : Type 0} → (Item → ByteRange → O) → FontValue → PlacedConfiguration → Option (List O)
final_places made font c = if is_final c then Some (placed_items made font c.elements) else None

-- the items of a list of elements if exactly this many steps lead to a final configuration, and none otherwise
unfoldable pub places_after : {O : Type 0} → (Item → ByteRange → O) → FontValue → List PlacedElement → ℕ → Option (List O)
places_after made font elements n = option_and_then (final_places made font) (placed_after font n (record { elements = elements; cursor = 0 }))

-- a list of elements has a result after this many steps, no more than the limit, and its items were appended
pub record AreAppended {O : Type 0} (made : Item → ByteRange → O) (font : FontValue) (elements : List PlacedElement) (limit : ℕ) (before after : List O) (steps : ℕ) : Type 0 where
  pub items : List O
  pub result : places_after made font elements steps ≡ Some items
  pub within : steps ≤ limit
  pub appended : after ≡ before ++ items

-- ---- without the places

-- elements without their places
abbrev pub elements_alone : List PlacedElement → List Element
elements_alone elements = map (λ one. one.element) elements

-- a configuration without the places
abbrev pub erased : PlacedConfiguration → Configuration
erased c = record { elements = elements_alone c.elements; cursor = c.cursor }
