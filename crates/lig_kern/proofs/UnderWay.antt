-- Several steps of the code, and the outcome at each end of the loop.
use Rattle.std.proofs.Common.{◌≡◌, ℕ, suc, ◌+◌, ◌<◌, ◌≤◌, Bool, true, false, List, [], ◌∷◌, ◌++◌, drop, drop-cons, get_or, length, map, Option, Some, None, arith, rules, refl, ap, sym, ◌∙◌, append_assoc, append-nil, length-append}
use Rattle.std.specs.Prelude.{if◌then◌else◌}
use Rattle.std.specs.List.{slice_get}
use Rattle.std.proofs.lemmas.List.{length-map}
use Rattle.std.specs.Option.{option_and_then, option_map}
use Rattle.tfm_tables.specs.Font.{FontValue}
use Rattle.lig_kern.specs.declared.item.Item.{Item}
use Rattle.lig_kern.specs.declared.byte_range.ByteRange.{ByteRange}
use Rattle.lig_kern.specs.declared.placed_symbol.PlacedSymbol.{PlacedSymbol}
use Rattle.lig_kern.specs.declared.symbol.Symbol.TheVariants.{Char}
use Rattle.lig_kern.specs.Rewriting.{Configuration, Element, of_symbol, opening, is_final as is_settled}
use Rattle.lig_kern.specs.Result.{HasNoResultFrom, result_from}
use Rattle.lig_kern.specs.Places.{AreAppended, PlacedElement, PlacedConfiguration, codes_ahead, elements_alone, erased, final_places, is_final, placed, placed_after, placed_items, placed_of, placed_step, places_after}
use Rattle.lig_kern.specs.Walking.{HasMoved, at, symbols_alone}
use Rattle.lig_kern.proofs.Erasing.{erase_after}
use Rattle.lig_kern.proofs.Moves.{placed_items-append}
use Rattle.lig_kern.proofs.Steps.{after_both, settled, unended}

-- ---- several steps

after_add : (font : FontValue) (n m : ℕ) (c : PlacedConfiguration) → placed_after font (n + m) c ≡ option_and_then (placed_after font m) (placed_after font n c)
unfolding placed_after
after_add font n m c = after_both (placed_step font) (placed_after font) (λ c. refl) (λ k c. refl) n m c

module _ {O : Type 0} (made : Item → ByteRange → O) (font : FontValue) where
  pub moved_none : (current : PlacedSymbol) (ahead : List PlacedSymbol) (out : List O) → HasMoved made font 0 current ahead current ahead out out
  unfolding placed_after placed_items
  moved_none current ahead out = record { sent = []; steps = λ done. ap (λ d. Some (at d current ahead)) (sym (append-nil done)); items = sym (append-nil out) }

  pub moved_on : (n m k : ℕ) (first current current' : PlacedSymbol) (symbols ahead ahead' : List PlacedSymbol) (before out out' : List O)
      → HasMoved made font n first symbols current ahead before out → HasMoved made font m current ahead current' ahead' out out' → k ≡ n + m
      → HasMoved made font k first symbols current' ahead' before out'
  moved_on n m k first current current' symbols ahead ahead' before out out' way more count = rw count (record {
    sent = way.sent ++ more.sent;
    steps = λ done. after_add font n m (at done first symbols) ∙ ap (option_and_then (placed_after font m)) (way.steps done) ∙ more.steps (done ++ way.sent)
        ∙ ap (λ d. Some (at d current' ahead')) (append_assoc done way.sent more.sent);
    items = more.items ∙ ap (λ xs. xs ++ placed_items made font more.sent) way.items
        ∙ append_assoc before (placed_items made font way.sent) (placed_items made font more.sent)
        ∙ ap (λ xs. before ++ xs) (sym (placed_items-append made font way.sent more.sent));
  })

-- one more code is passed
pub code_next : (codes : List ℕ) (used at : ℕ) (hyphen : Option ℕ) (stands : Bool) → used < length codes
    → codes_ahead (drop used codes) (at + used) hyphen stands
    ≡ placed (Char (get_or codes used 0)) (at + used) (at + used + 1) ∷ codes_ahead (drop (used + 1) codes) (at + (used + 1)) hyphen stands
code_next codes used at hyphen stands within =
    ap (λ xs. codes_ahead xs (at + used) hyphen stands) (drop-cons codes used 0 within)
    ∙ ap (λ k. placed (Char (get_or codes used 0)) (at + used) (at + used + 1) ∷ codes_ahead (drop (suc used) codes) k hyphen stands) {x = at + used + 1} {y = at + (used + 1)} (omega arith)
    ∙ ap (λ k. placed (Char (get_or codes used 0)) (at + used) (at + used + 1) ∷ codes_ahead (drop k codes) (at + (used + 1)) hyphen stands) {x = suc used} {y = used + 1} (omega arith)

-- ---- the ends

-- a configuration whose current symbol is the last one is final, and one with a symbol ahead of it isn't
last_is_final : (done : List PlacedElement) (current : PlacedSymbol) → is_final (at done current []) ≡ true
last_is_final done current =
    let long : length (done ++ placed_of current ∷ []) ≡ length done + 1 = length-append done _ in grind (arith, long)

isnt_final : (done : List PlacedElement) (current x : PlacedSymbol) (rest : List PlacedSymbol) → is_settled (erased (at done current (x ∷ rest))) ≡ false
isnt_final done current x rest =
    let long : length (elements_alone (done ++ placed_of current ∷ placed_of x ∷ map placed_of rest)) ≡ length done + length (placed_of current ∷ placed_of x ∷ map placed_of rest) =
    length-map _ _ ∙ length-append done _ in
    grind (arith, long)

pub alone_are : (symbols : List PlacedSymbol) → elements_alone (map placed_of symbols) ≡ map of_symbol (symbols_alone symbols)
alone_are [] = refl
alone_are (one ∷ symbols) = ap (λ more. of_symbol one.symbol ∷ more) (alone_are symbols)

module _ {O : Type 0} (made : Item → ByteRange → O) (font : FontValue) (first : PlacedSymbol) (symbols : List PlacedSymbol) (used limit : ℕ) (current : PlacedSymbol) where
  pub ends_at : (ahead : List PlacedSymbol) (before out after : List O) → HasMoved made font used first symbols current ahead before out → slice_get ahead 0 ≡ None → used ≤ limit
      → after ≡ out ++ placed_items made font (placed_of current ∷ []) → AreAppended made font (map placed_of (first ∷ symbols)) limit before after used
  unfolding places_after
  ends_at (x ∷ rest) before out after way none within sent = absurd (search rules)
  ends_at [] before out after way none within sent = record {
    items = all;
    result = ap (option_and_then (final_places made font)) (way.steps []) ∙ shown (is_final (at way.sent current [])) (last_is_final way.sent current);
    within = within;
    appended = sent ∙ ap (λ xs. xs ++ placed_items made font (placed_of current ∷ [])) way.items
        ∙ append_assoc before (placed_items made font way.sent) (placed_items made font (placed_of current ∷ []))
        ∙ ap (λ xs. before ++ xs) (sym (placed_items-append made font way.sent (placed_of current ∷ [])));
  }
    where
      all : List O
      all = placed_items made font (way.sent ++ placed_of current ∷ [])

      shown : (b : Bool) → b ≡ true → (if b then Some all else None) ≡ Some all
      shown true e = refl
      shown false e = absurd (cc)

  pub never_ends : (ahead : List PlacedSymbol) (next : PlacedSymbol) (before out : List O) → HasMoved made font used first symbols current ahead before out
      → slice_get ahead 0 ≡ Some next → limit ≤ used → HasNoResultFrom font (symbols_alone (first ∷ symbols)) limit
  unfolding result_from opening
  never_ends [] next before out way more reached = absurd (search rules)
  never_ends (x ∷ rest) next before out way more reached = λ n within.
      ap (λ elements. settled font n (opened elements)) (sym (alone_are (first ∷ symbols)))
      ∙ unended font used n (erased (at [] first symbols)) (erased (at way.sent current (x ∷ rest)))
      (sym (erase_after font used (at [] first symbols)) ∙ ap (option_map erased) (way.steps [])) (isnt_final way.sent current x rest) (omega arith)
    where
      opened : List Element → Configuration
      opened elements = record { elements = elements; cursor = 0 }
