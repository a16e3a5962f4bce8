-- The outcome of a run, from its symbols before its first step, as the code has them.
use Rattle.std.proofs.Common.{◌≡◌, ℕ, ◌+◌, Bool, true, false, List, [], ◌∷◌, ◌++◌, length, map, Option, Some, None, arith, refl, ap, sym, ◌∙◌, ◌&&◌, append-nil}
use Rattle.std.specs.Prelude.{if◌then◌else◌, is_some, MatchOption}
use Rattle.std.specs.List.{slice_get}
use Rattle.std.specs.Option.{option_map, option_map_or}
use Rattle.std.proofs.lemmas.List.{map-id}
use Rattle.tfm_tables.specs.Font.{FontValue}
use Rattle.tfm_tables.specs.Program.{program_of, right_code_of}
use Rattle.lig_kern.specs.declared.ends.Ends.{Ends}
use Rattle.lig_kern.specs.declared.item.Item.{Item}
use Rattle.lig_kern.specs.declared.byte_range.ByteRange.{ByteRange}
use Rattle.lig_kern.specs.declared.placed_symbol.PlacedSymbol.{PlacedSymbol}
use Rattle.lig_kern.specs.declared.symbol.Symbol.TheVariants.{Left, Char, Right}
use Rattle.lig_kern.specs.Rewriting.{of_symbol, opening, right_end, symbols_with}
use Rattle.lig_kern.specs.Result.{HasNoResultFrom, IsAppendedResult, result_from}
use Rattle.lig_kern.specs.Places.{AreAppended, codes_ahead, end_at, has_end, hyphen_codes, left_at, placed_after, placed_items, placed_of, placed_run, places_after, run_symbols, symbols_at}
use Rattle.lig_kern.specs.Walking.{EndsAfter, symbols_alone}
use Rattle.lig_kern.proofs.Erasing.{erase_result}
use Rattle.lig_kern.proofs.Steps.{settled}
use Rattle.lig_kern.proofs.UnderWay.{alone_are}

-- ---- without the places

end_alone : (font : FontValue) (right : Bool) (offset : ℕ) → symbols_alone (end_at offset (has_end font right)) ≡ right_end font right
unfolding right_end
end_alone font right offset = by right (right_code_of (program_of font.words))
  where
    by : (asked : Bool) (code : Option ℕ) → symbols_alone (end_at offset (asked && is_some code)) ≡ (if asked then option_map_or (λ _. Right ∷ []) code [] else [])
    by false code = refl
    by true None = refl
    by true (Some code) = refl

codes_alone : (font : FontValue) (right : Bool) (codes : List ℕ) (offset : ℕ) (hyphen : Option ℕ)
    → symbols_alone (codes_ahead codes offset hyphen (has_end font right)) ≡ map Char (codes ++ hyphen_codes hyphen) ++ right_end font right
codes_alone font right [] offset None = end_alone font right offset
codes_alone font right [] offset (Some code) = ap (λ more. Char code ∷ more) (end_alone font right offset)
codes_alone font right (code ∷ codes) offset hyphen = ap (λ more. Char code ∷ more) (codes_alone font right codes (offset + 1) hyphen)

symbols_are : (font : FontValue) (codes : List ℕ) (ends : Ends) → symbols_alone (symbols_at codes ends (has_end font ends.right)) ≡ run_symbols font codes ends
symbols_are font codes ends = by ends.left
  where
    by : (left : Bool) → symbols_alone (left_at ends.offset left ++ codes_ahead codes ends.offset ends.hyphen (has_end font ends.right)) ≡ symbols_with font left (codes ++ hyphen_codes ends.hyphen) ends.right
    by true = ap (λ more. Left ∷ more) (codes_alone font ends.right codes ends.offset ends.hyphen)
    by false = codes_alone font ends.right codes ends.offset ends.hyphen

-- the items of a run, after the same number of steps
pub result_alone : {O : Type 0} (made : Item → ByteRange → O) (alone : O → Item) → ((item : Item) (place : ByteRange) → alone (made item place) ≡ item)
    → (font : FontValue) (codes : List ℕ) (ends : Ends) (n : ℕ) → option_map (map alone) (places_after made font (placed_run font codes ends) n) ≡ result_from font (run_symbols font codes ends) n
unfolding result_from opening placed_run
result_alone made alone keeps font codes ends n =
    erase_result made alone keeps font (placed_run font codes ends) n
    ∙ ap (λ elements. settled font n (record { elements = elements; cursor = 0 }))
    (alone_are (symbols_at codes ends (has_end font ends.right)) ∙ ap (map of_symbol) (symbols_are font codes ends))

-- ---- the outcome

pub run_ends : {O : Type 0} (made : Item → ByteRange → O) (font : FontValue) (codes : List ℕ) (ends : Ends) (first : PlacedSymbol) (symbols : List PlacedSymbol) (limit : ℕ) (before after : List O)
    (steps : Option ℕ) → first ∷ symbols ≡ symbols_at codes ends (has_end font ends.right) → EndsAfter made font (first ∷ symbols) limit before after steps
    → MatchOption steps (HasNoResultFrom font (run_symbols font codes ends) limit) (AreAppended made font (placed_run font codes ends) limit before after)
unfolding placed_run
run_ends made font codes ends first symbols limit before after None same out = rw (sym (symbols_are font codes ends)) (rw (sym same) out)
run_ends made font codes ends first symbols limit before after (Some n) same out = rw (sym same) out

-- no symbol is ahead of the last one
pub nothing_ahead : (codes : List ℕ) (at : ℕ) (hyphen : Option ℕ) (right : Bool) → length codes ≡ 0 → hyphen ≡ None → right ≡ false → slice_get (codes_ahead codes at hyphen right) 0 ≡ None
nothing_ahead [] at hyphen right none alone last = rw alone (rw last refl)
nothing_ahead (code ∷ codes) at hyphen right none alone last = absurd (omega arith)

-- a run without a symbol but, perhaps, the right boundary has its result at once
pub nothing_set : {O : Type 0} (made : Item → ByteRange → O) (font : FontValue) (codes : List ℕ) (ends : Ends) (limit : ℕ) (before : List O) → ends.left ≡ false → codes ≡ [] → ends.hyphen ≡ None
    → AreAppended made font (placed_run font codes ends) limit before before 0
unfolding places_after placed_after placed_items placed_run
nothing_set made font codes ends limit before left none alone =
    rw none (rw left (rw alone (record { items = []; result = by (has_end font ends.right); within = omega arith; appended = sym (append-nil before) })))
  where
    by : (right : Bool) → places_after made font (map placed_of (end_at ends.offset right)) 0 ≡ Some []
    by false = refl
    by true = refl

-- the items of a run with the left boundary and without a hyphen, which are kept alone
pub word_set : (font : FontValue) (word : List ℕ) (right : Bool) (limit : ℕ) (before after : List Item) (n : ℕ)
    → AreAppended (λ item place. item) font (placed_run font word (record { offset = 0; left = true; hyphen = None; right = right })) limit before after n
    → IsAppendedResult font word right limit before after n
word_set font word right limit before after n is = record {
  items = is.items;
  result = ap (λ codes. result_from font (symbols_with font true codes right) n) (sym (append-nil word))
      ∙ sym (result_alone (λ item place. item) (λ item. item) (λ item place. refl) font word (record { offset = 0; left = true; hyphen = None; right = right }) n)
      ∙ ap (option_map (map (λ item. item))) is.result ∙ ap Some (map-id is.items);
  within = is.within;
  appended = is.appended;
}
