-- Proofs of the laws of the places.
use Rattle.std.proofs.Common.{◌≡◌, ℕ, suc, zero, ◌+◌, ◌≤◌, Bool, true, false, List, [], ◌∷◌, ◌++◌, length, map, take, drop, Option, Some, None, arith, rules, refl, ap, subst}
use Rattle.std.specs.Prelude.{if◌then◌else◌}
use Rattle.std.specs.List.{filter_map, cons_option, slice_get}
use Rattle.std.specs.Option.{option_and_then, option_map}
use Rattle.tfm_tables.specs.Font.{FontValue}
use Rattle.lig_kern.specs.declared.ends.Ends.{Ends}
use Rattle.lig_kern.specs.declared.byte_range.ByteRange.{ByteRange}
use Rattle.lig_kern.specs.declared.symbol.Symbol.TheVariants.{Left, Char, Right}
use Rattle.lig_kern.specs.declared.action.Action.{Action}
use Rattle.lig_kern.specs.declared.action.Action.TheVariants.{Kern, Lig}
use Rattle.lig_kern.specs.Places.{PlacedElement, PlacedConfiguration, codes_ahead, final_places, has_end, is_final, left_at, placed_after, placed_by, placed_item, placed_items, placed_of, placed_run, placed_step, places_after, replaced}
use Rattle.lig_kern.specs.Rewriting.{Element, of_symbol, of_kern, action_at, item_of}
use Rattle.lig_kern.proofs.Runs.{result_alone}
use Rattle.spans.specs.declared.span.Span.{Span}
use Rattle.spans.specs.declared.placed_item.PlacedItem.{PlacedItem}
use Rattle.spans.specs.Spans.{codes_of, ends_of}
use Rattle.spans.specs.Places.{placed}
use Rattle.spans.specs.PlaceLaws.{FillSpan, HasSameItems, ItemsAreJoined}
use Rattle.spans.proofs.RefusalLemmas.{code_length}

-- ---- without the places

-- Law: without the places, the items of a span are those of its run, after the same number of steps
pub has_same_items : (font : FontValue) (text : List ℕ) (span : Span) → HasSameItems font text span
has_same_items font text span = λ n.
    result_alone placed (λ (one : PlacedItem). one.item) (λ item place. refl) font (codes_of text span) (ends_of span) n

-- ---- the order of the places

-- the place of a boundary is empty
abbrev BoundaryIsEmpty : Element → ByteRange → Type 0
BoundaryIsEmpty (of_symbol Left) place = place.start ≡ place.end
BoundaryIsEmpty (of_symbol (Char code)) place = Unit {0}
BoundaryIsEmpty (of_symbol Right) place = place.start ≡ place.end
BoundaryIsEmpty (of_kern amount) place = Unit {0}

-- elements whose places follow one another, with those of the boundaries empty
abbrev Fill : ℕ → List PlacedElement → ℕ → Type 0
Fill low [] high = low ≡ high
Fill low (one ∷ rest) high =
    (one.place.start ≡ low) × (one.place.start ≤ one.place.end) × BoundaryIsEmpty one.element one.place × Fill one.place.end rest high

fill_put : (low high : ℕ) (action : Option Action) (x y : PlacedElement) (rest : List PlacedElement)
    → Fill low (x ∷ y ∷ rest) high → Fill low (placed_by action x y ++ rest) high
fill_put low high None x y rest order = order
fill_put low high (Some (Kern amount)) x y rest order =
    (order.0, order.1, order.2, (order.3.0, omega arith, tt, (refl, order.3.1, order.3.2, order.3.3)))
fill_put low high (Some (Lig code true true pass)) x y rest order =
    (order.0, order.1, order.2, (order.3.0, omega arith, tt, (refl, order.3.1, order.3.2, order.3.3)))
fill_put low high (Some (Lig code true false pass)) x y rest order = (order.0, order.1, order.2, (order.3.0, order.3.1, tt, order.3.3))
fill_put low high (Some (Lig code false true pass)) x y rest order = (order.0, order.1, tt, order.3)
fill_put low high (Some (Lig code false false pass)) x y rest order =
    (order.0, omega (arith, order.1, order.3.0, order.3.1), tt, order.3.3)

fill_replaced : (low high : ℕ) (action : Option Action) (k : ℕ) (xs : List PlacedElement) (x y : PlacedElement) → slice_get xs k ≡ Some x → slice_get xs (k + 1) ≡ Some y
    → Fill low xs high → Fill low (take k xs ++ placed_by action x y ++ drop (k + 2) xs) high
fill_replaced low high action zero [] x y here there order = absurd (search rules)
fill_replaced low high action zero (a ∷ []) x y here there order = absurd (search rules)
fill_replaced low high action zero (a ∷ b ∷ rest) x y here there order =
    let same : a ≡ x = grind (arith, here) in
    let same' : b ≡ y = grind (arith, there) in
    fill_put low high action x y rest (subst (λ first. Fill low (first ∷ y ∷ rest) high) same (subst (λ second. Fill low (a ∷ second ∷ rest) high) same' order))
fill_replaced low high action (suc k) [] x y here there order = absurd (search rules)
fill_replaced low high action (suc k) (a ∷ rest) x y here there order =
    let further : suc k + 2 ≡ suc (k + 2) = omega arith in
    let next : suc k + 1 ≡ suc (k + 1) = omega arith in
    rw further (order.0, order.1, order.2, fill_replaced a.place.end high action k rest x y here (rw next at there) order.3)

fill_step : (font : FontValue) (low high : ℕ) (c d : PlacedConfiguration) → placed_step font c ≡ Some d → Fill low c.elements high → Fill low d.elements high
unfolding placed_step
fill_step font low high c d is order = by (slice_get c.elements c.cursor) refl (slice_get c.elements (c.cursor + 1)) refl is
  where
    by : (a : Option PlacedElement) → slice_get c.elements c.cursor ≡ a → (b : Option PlacedElement) → slice_get c.elements (c.cursor + 1) ≡ b
        → option_and_then (λ current. option_map (λ next. replaced c (action_at font current.element next.element) current next) b) a ≡ Some d
        → Fill low d.elements high
    by None here b there e = absurd (cc)
    by (Some x) here None there e = absurd (cc)
    by (Some x) here (Some y) there e =
        let action = action_at font x.element y.element in
        let same : replaced c action x y ≡ d = grind (arith, e) in
        subst (λ (d : PlacedConfiguration). Fill low d.elements high) same
        (fill_replaced low high action c.cursor c.elements x y here there order)

fill_after : (font : FontValue) (low high n : ℕ) (c d : PlacedConfiguration) → placed_after font n c ≡ Some d → Fill low c.elements high → Fill low d.elements high
unfolding placed_after
fill_after font low high zero c d is order =
    let same : c ≡ d = grind (arith, is) in subst (λ (d : PlacedConfiguration). Fill low d.elements high) same order
fill_after font low high (suc n) c d is order = by (placed_step font c) refl is (λ next on ordered. fill_after font low high n next d on ordered)
  where
    by : (o : Option PlacedConfiguration) → placed_step font c ≡ o → option_and_then (placed_after font n) o ≡ Some d
        → ((next : PlacedConfiguration) → placed_after font n next ≡ Some d → Fill low next.elements high → Fill low d.elements high)
        → Fill low d.elements high
    by None e e' onward = absurd (cc)
    by (Some next) e e' onward = onward next e' (fill_step font low high c next e order)

-- without the boundaries, which have empty places, the places still follow one another
fill_items : (font : FontValue) (low high : ℕ) (elements : List PlacedElement) → Fill low elements high → ItemsAreJoined low (placed_items placed font elements) high
unfolding placed_items
fill_items font low high [] order = order
fill_items font low high (one ∷ elements) order =
    by one.element order.2 (fill_items font one.place.end high elements order.3)
  where
    by : (element : Element) → BoundaryIsEmpty element one.place → ItemsAreJoined one.place.end (filter_map (placed_item placed font) elements) high
        → ItemsAreJoined low (cons_option (option_map (λ item. record { item = item; place = one.place }) (item_of font element)) (filter_map (placed_item placed font) elements)) high
    by (of_symbol Left) empty rest =
        let here : one.place.end ≡ low = omega (arith, empty, order.0) in
        subst (λ k. ItemsAreJoined k (filter_map (placed_item placed font) elements) high) here rest
    by (of_symbol (Char code)) empty rest = (order.0, order.1, rest)
    by (of_symbol Right) empty rest =
        let here : one.place.end ≡ low = omega (arith, empty, order.0) in
        subst (λ k. ItemsAreJoined k (filter_map (placed_item placed font) elements) high) here rest
    by (of_kern amount) empty rest = (order.0, order.1, rest)

fill_ahead : (codes : List ℕ) (offset : ℕ) (hyphen : Option ℕ) (right : Bool) → Fill offset (map placed_of (codes_ahead codes offset hyphen right)) (offset + length codes)
fill_ahead [] offset hyphen right = let none : offset + 0 ≡ offset = omega arith in rw none (by hyphen right)
  where
    by : (hyphen : Option ℕ) (right : Bool) → Fill offset (map placed_of (codes_ahead [] offset hyphen right)) offset
    by None false = refl
    by None true = (refl, omega arith, refl, refl)
    by (Some code) false = (refl, omega arith, tt, refl)
    by (Some code) true = (refl, omega arith, tt, (refl, omega arith, refl, refl))
fill_ahead (code ∷ codes) offset hyphen right =
    let further : offset + length (code ∷ codes) ≡ offset + 1 + length codes = omega arith in
    (refl, omega arith, tt, rw further (fill_ahead codes (offset + 1) hyphen right))

fill_run : (font : FontValue) (codes : List ℕ) (ends : Ends) → Fill ends.offset (placed_run font codes ends) (ends.offset + length codes)
unfolding placed_run
fill_run font codes ends = by ends.left (fill_ahead codes ends.offset ends.hyphen (has_end font ends.right))
  where
    by : (left : Bool) → Fill ends.offset (map placed_of (codes_ahead codes ends.offset ends.hyphen (has_end font ends.right))) (ends.offset + length codes)
        → Fill ends.offset (map placed_of (left_at ends.offset left ++ codes_ahead codes ends.offset ends.hyphen (has_end font ends.right))) (ends.offset + length codes)
    by false order = order
    by true order = (refl, omega arith, refl, order)

-- the places of the result of elements that follow one another do so, too
fill_result : (font : FontValue) (low high : ℕ) (elements : List PlacedElement) (n : ℕ) (items : List PlacedItem) → Fill low elements high
    → places_after placed font elements n ≡ Some items → ItemsAreJoined low items high
unfolding places_after
fill_result font low high elements n items order is = by (placed_after font n opened) refl is
  where
    opened : PlacedConfiguration
    opened = record { elements = elements; cursor = 0 }

    final : (b : Bool) (d : PlacedConfiguration) → (if b then Some (placed_items placed font d.elements) else None) ≡ Some items → placed_items placed font d.elements ≡ items
    final true d e = grind (arith, e)
    final false d e = absurd (cc)

    by : (o : Option PlacedConfiguration) → placed_after font n opened ≡ o → option_and_then (final_places placed font) o ≡ Some items → ItemsAreJoined low items high
    by None e e' = absurd (cc)
    by (Some d) e e' =
        subst (λ items. ItemsAreJoined low items high) (final (is_final d) d e')
        (fill_items font low high d.elements (fill_after font low high n opened d e order))

-- Law: the places of the items of a span follow one another from its start to its end
pub fills_span : (font : FontValue) (text : List ℕ) (span : Span) → FillSpan font text span
fills_span font text span = λ within n items is.
    subst (λ high. ItemsAreJoined span.offset items high) (ap (λ k. span.offset + k) (code_length text span (codes_of text span) refl within))
    (fill_result font span.offset (span.offset + length (codes_of text span)) (placed_run font (codes_of text span) (ends_of span)) n items
    (fill_run font (codes_of text span) (ends_of span)) is)
