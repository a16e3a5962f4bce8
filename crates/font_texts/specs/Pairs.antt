-- The pairs of neighbours for which the lig/kern program of a font has an action.
-- Public source: tftopl.web, section 13; The METAFONTbook, Appendix F. The action between two neighbours is
-- defined in Matching of `lig_kern`; their order is this project's own.
use Rattle.std.specs.Prelude.{List, [], ◌∷◌, ◌++◌, ℕ, map, filter, flat_map, Option, Some, None}
use Rattle.lig_kern.specs.Matching.{action_between}
use Rattle.lig_kern.specs.declared.action.Action.{Action}
use Rattle.lig_kern.specs.declared.symbol.Symbol.{Symbol}
use Rattle.lig_kern.specs.declared.symbol.Symbol.TheVariants.{Left, Char, Right}
use Rattle.tfm_tables.specs.Character.{exists}
use Rattle.tfm_tables.specs.Font.{FontValue}
use Rattle.font_texts.specs.Listing.{all_codes}
use Rattle.font_texts.specs.declared.pair.Pair.{Pair}

-- the existing characters, in the order of their codes
abbrev pub characters : List ℕ → List Symbol
characters words = map Char (filter (exists words) all_codes)

-- the symbols that may be on the left: the left boundary, and then the existing characters
unfoldable pub left_symbols : List ℕ → List Symbol
left_symbols words = Left ∷ characters words

-- the symbols that may be on the right: the existing characters, and then the right boundary
unfoldable pub right_symbols : List ℕ → List Symbol
right_symbols words = characters words ++ Right ∷ []

-- two neighbours with their action, or nothing if there is no action
abbrev pub pair_with : Symbol → Symbol → Option Action → List Pair
pair_with first second None = []
pair_with first second (Some action) = record { left = first; right = second; action = action } ∷ []

-- the pairs with this symbol on the left that have an action, in the order of the symbols on the right
unfoldable pub pairs_after : FontValue → Symbol → List Pair
pairs_after font left = flat_map (λ right. pair_with left right (action_between font left right)) (right_symbols font.words)

-- the pairs of a font that have an action, in the order of the symbols on the left
unfoldable pub pairs_of : FontValue → List Pair
pairs_of font = flat_map (pairs_after font) (left_symbols font.words)
