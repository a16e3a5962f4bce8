-- How the code represents a run that is being set: the current symbol and the symbols ahead of it. Everything
-- to the left of the current symbol is already in the list of items. This project's own; each such state
-- represents a configuration (defined in Places).
use Rattle.std.specs.Prelude.{◌≡◌, ℕ, Bool, List, ◌∷◌, ◌++◌, length, map, reverse, Option, Some, MatchOption}
use Rattle.tfm_tables.specs.Font.{FontValue}
use Rattle.lig_kern.specs.declared.item.Item.{Item}
use Rattle.lig_kern.specs.declared.byte_range.ByteRange.{ByteRange}
use Rattle.lig_kern.specs.declared.placed_symbol.PlacedSymbol.{PlacedSymbol}
use Rattle.lig_kern.specs.declared.symbol.Symbol.{Symbol}
use Rattle.lig_kern.specs.Result.{HasNoResultFrom}
use Rattle.lig_kern.specs.Places.{AreAppended, PlacedElement, PlacedConfiguration, codes_ahead, placed_after, placed_items, placed_of}

-- the symbols ahead of the current one: the characters that operations put there (the last one comes first),
-- and then those of the run
unfoldable pub symbols_ahead : List PlacedSymbol → List ℕ → ℕ → Option ℕ → Bool → List PlacedSymbol
symbols_ahead pending rest offset hyphen right = reverse pending ++ codes_ahead rest offset hyphen right

-- the configuration with these elements before the current symbol, and these symbols ahead of it
abbrev pub at : List PlacedElement → PlacedSymbol → List PlacedSymbol → PlacedConfiguration
at done current ahead = record { elements = done ++ placed_of current ∷ map placed_of ahead; cursor = length done }

-- this many steps lead from a current symbol and the symbols ahead of it to others, and the items of the elements
-- that they pass were appended
pub record HasMoved {O : Type 0} (made : Item → ByteRange → O) (font : FontValue) (n : ℕ) (current : PlacedSymbol) (ahead : List PlacedSymbol) (current' : PlacedSymbol) (ahead' : List PlacedSymbol) (out out' : List O) : Type 0 where
  pub sent : List PlacedElement
  pub steps : (done : List PlacedElement) → placed_after font n (at done current ahead) ≡ Some (at (done ++ sent) current' ahead')
  pub items : out' ≡ out ++ placed_items made font sent

-- the symbols without their places
abbrev pub symbols_alone : List PlacedSymbol → List Symbol
symbols_alone symbols = map (λ one. one.symbol) symbols

-- the outcome of a run of these symbols within a limit
abbrev pub EndsAfter : {O : Type 0} → (Item → ByteRange → O) → FontValue → List PlacedSymbol → ℕ → List O → List O → Option ℕ → Type 0
EndsAfter made font symbols limit before after steps =
    MatchOption steps (HasNoResultFrom font (symbols_alone symbols) limit) (AreAppended made font (map placed_of symbols) limit before after)
