-- Without the places, the steps and the items are those of the rewriting.
use Rattle.std.proofs.Common.{◌≡◌, ℕ, suc, zero, ◌+◌, Bool, true, false, List, [], ◌∷◌, ◌++◌, map, take, drop, Option, Some, None, refl, ap, ◌∙◌}
use Rattle.std.specs.Prelude.{if◌then◌else◌}
use Rattle.std.specs.List.{filter_map, cons_option, slice_get}
use Rattle.std.specs.Option.{option_and_then, option_map}
use Rattle.std.proofs.lemmas.List.{length-map, map-append, take-map, drop-map}
use Rattle.std.proofs.lemmas.Option.{slice_get-map}
use Rattle.tfm_tables.specs.Font.{FontValue}
use Rattle.lig_kern.specs.declared.action.Action.{Action}
use Rattle.lig_kern.specs.declared.action.Action.TheVariants.{Kern, Lig}
use Rattle.lig_kern.specs.declared.item.Item.{Item}
use Rattle.lig_kern.specs.declared.byte_range.ByteRange.{ByteRange}
use Rattle.lig_kern.specs.Rewriting.{Configuration, Element, action_at, splice_by, spliced, step_from, after_steps, final_items, item_of, items_of}
use Rattle.lig_kern.specs.Places.{PlacedElement, PlacedConfiguration, elements_alone, erased, placed_by, replaced, placed_step, placed_after, placed_item, placed_items, final_places, is_final, places_after}
use Rattle.lig_kern.proofs.Steps.{settled}

erase_put : (action : Option Action) (current next : PlacedElement) → elements_alone (placed_by action current next) ≡ (splice_by action current.element next.element).elements
erase_put None current next = refl
erase_put (Some (Kern amount)) current next = refl
erase_put (Some (Lig code true true pass)) current next = refl
erase_put (Some (Lig code true false pass)) current next = refl
erase_put (Some (Lig code false true pass)) current next = refl
erase_put (Some (Lig code false false pass)) current next = refl

erase_replaced : (c : PlacedConfiguration) (action : Option Action) (current next : PlacedElement)
    → erased (replaced c action current next) ≡ spliced (erased c) (splice_by action current.element next.element)
erase_replaced c action current next = ap (λ elements. configuration elements) whole
  where
    configuration : List Element → Configuration
    configuration elements = record { elements = elements; cursor = c.cursor + (splice_by action current.element next.element).pass }

    whole : elements_alone (take c.cursor c.elements ++ placed_by action current next ++ drop (c.cursor + 2) c.elements)
        ≡ take c.cursor (elements_alone c.elements) ++ (splice_by action current.element next.element).elements ++ drop (c.cursor + 2) (elements_alone c.elements)
    whole =
        rw (take-map (λ (one : PlacedElement). one.element) c.cursor c.elements)
        (rw (drop-map (λ (one : PlacedElement). one.element) (c.cursor + 2) c.elements)
        (map-append (λ one. one.element) (take c.cursor c.elements ++ placed_by action current next) (drop (c.cursor + 2) c.elements)
        ∙ ap (λ front. front ++ elements_alone (drop (c.cursor + 2) c.elements))
        (map-append (λ one. one.element) (take c.cursor c.elements) (placed_by action current next)
        ∙ ap (λ put. elements_alone (take c.cursor c.elements) ++ put) (erase_put action current next))))

erase_step : (font : FontValue) (c : PlacedConfiguration) → option_map erased (placed_step font c) ≡ step_from font (erased c)
unfolding placed_step step_from
erase_step font c =
    rw (slice_get-map (λ (one : PlacedElement). one.element) c.elements c.cursor)
    (rw (slice_get-map (λ (one : PlacedElement). one.element) c.elements (c.cursor + 1))
    (by (slice_get c.elements c.cursor) (slice_get c.elements (c.cursor + 1))))
  where
    by : (a b : Option PlacedElement)
        → option_map erased (option_and_then (λ current. option_map (λ next. replaced c (action_at font current.element next.element) current next) b) a)
        ≡ option_and_then (λ current. option_map (λ next. spliced (erased c) (splice_by (action_at font current next) current next)) (option_map (λ one. one.element) b))
        (option_map (λ one. one.element) a)
    by None b = refl
    by (Some x) None = refl
    by (Some x) (Some y) = ap Some (erase_replaced c (action_at font x.element y.element) x y)

-- Law: without the places, the steps are those of Rewriting, one by one
pub erase_after : (font : FontValue) (n : ℕ) (c : PlacedConfiguration) → option_map erased (placed_after font n c) ≡ after_steps font n (erased c)
unfolding placed_after after_steps
erase_after font zero c = refl
erase_after font (suc n) c = by (placed_step font c) (erase_step font c) (λ d. erase_after font n d)
  where
    by : (o : Option PlacedConfiguration) → option_map erased o ≡ step_from font (erased c)
        → ((d : PlacedConfiguration) → option_map erased (placed_after font n d) ≡ after_steps font n (erased d))
        → option_map erased (option_and_then (placed_after font n) o) ≡ option_and_then (after_steps font n) (step_from font (erased c))
    by None e onward = ap (option_and_then (after_steps font n)) e
    by (Some d) e onward = onward d ∙ ap (option_and_then (after_steps font n)) e

-- what keeps the items keeps them with their places
module _ {O : Type 0} (made : Item → ByteRange → O) (alone : O → Item) (keeps : (item : Item) (place : ByteRange) → alone (made item place) ≡ item) where
  pub erase_items : (font : FontValue) (elements : List PlacedElement) → map alone (placed_items made font elements) ≡ items_of font (elements_alone elements)
  unfolding placed_items items_of
  erase_items font [] = refl
  erase_items font (one ∷ elements) = by (item_of font one.element) (erase_items font elements)
    where
      by : (o : Option Item) → map alone (filter_map (placed_item made font) elements) ≡ filter_map (item_of font) (elements_alone elements)
          → map alone (cons_option (option_map (λ item. made item one.place) o) (filter_map (placed_item made font) elements))
          ≡ cons_option o (filter_map (item_of font) (elements_alone elements))
      by None rest = rest
      by (Some item) rest = ap (λ first. first ∷ map alone (filter_map (placed_item made font) elements)) (keeps item one.place) ∙ ap (λ items. item ∷ items) rest

  erase_final : (font : FontValue) (c : PlacedConfiguration) → option_map (map alone) (final_places made font c) ≡ final_items font (erased c)
  erase_final font c = rw (length-map c.elements (λ (one : PlacedElement). one.element)) (by (is_final c))
    where
      by : (b : Bool) → option_map (map alone) (if b then Some (placed_items made font c.elements) else None) ≡ (if b then Some (items_of font (elements_alone c.elements)) else None)
      by true = ap Some (erase_items font c.elements)
      by false = refl

  -- the items of elements with places, after this many steps, are those of the elements without them
  pub erase_result : (font : FontValue) (elements : List PlacedElement) (n : ℕ)
      → option_map (map alone) (places_after made font elements n) ≡ settled font n (record { elements = elements_alone elements; cursor = 0 })
  unfolding places_after
  erase_result font elements n = by (placed_after font n opened) (erase_after font n opened)
    where
      opened : PlacedConfiguration
      opened = record { elements = elements; cursor = 0 }

      by : (o : Option PlacedConfiguration) → option_map erased o ≡ after_steps font n (erased opened)
          → option_map (map alone) (option_and_then (final_places made font) o) ≡ option_and_then (final_items font) (after_steps font n (erased opened))
      by None e = ap (option_and_then (final_items font)) e
      by (Some d) e = erase_final font d ∙ ap (option_and_then (final_items font)) e
