-- The outcome of a span, from what was found on the way.
use Rattle.std.proofs.Common.{◌≡◌, ℕ, ◌-◌, List, length, map, drop, Some, None, arith, refl, ap, sym, ◌∙◌, length-append}
use Rattle.std.proofs.Math.Seq.{drop-append_seam}
use Rattle.std.proofs.lemmas.List.{length-map}
use Rattle.std.specs.Option.{option_map}
use Rattle.tfm_tables.specs.Font.{FontValue}
use Rattle.lig_kern.specs.declared.item.Item.{Item}
use Rattle.lig_kern.specs.declared.byte_range.ByteRange.{ByteRange}
use Rattle.lig_kern.specs.Result.{HasNoResultFrom}
use Rattle.lig_kern.specs.Places.{AreAppended, placed_run}
use Rattle.lig_kern.proofs.LawLemmas.{finds_result_from}
use Rattle.lig_kern.proofs.Runs.{result_alone}
use Rattle.set_line.specs.Width.{total_width}
use Rattle.spans.specs.declared.span.Span.{Span}
use Rattle.spans.specs.declared.outcome.SpanSize.{SpanSize}
use Rattle.spans.specs.declared.outcome.SpanOutcome.{SpanOutcome}
use Rattle.spans.specs.declared.outcome.SpanOutcome.TheVariants.{Set, Refused}
use Rattle.spans.specs.declared.outcome.SpanRefusal.{SpanRefusal}
use Rattle.spans.specs.declared.outcome.SpanRefusal.TheVariants.{Steps}
use Rattle.spans.specs.declared.placed_item.PlacedItem.{PlacedItem}
use Rattle.spans.specs.Spans.{codes_of, ends_of, outcome_of, refusal_of, set_or_refused, symbols_of_span}
use Rattle.spans.specs.Places.{placed}
use Rattle.spans.specs.PlaceLaws.{AreItemsBy, AreItemsOf}
use Rattle.spans.proofs.PlaceLaws.{fills_span}

pub outcome_is : (font : FontValue) (text : List ℕ) (span : Span) (limit : ℕ) (outcome : SpanOutcome) → refusal_of font text span ≡ None
    → outcome ≡ set_or_refused font (symbols_of_span font text span) limit → outcome ≡ outcome_of font text span limit
unfolding outcome_of
outcome_is font text span limit outcome none is = rw none is

pub refused_is : (font : FontValue) (text : List ℕ) (span : Span) (limit : ℕ) (refusal : SpanRefusal) → refusal_of font text span ≡ Some refusal
    → Refused refusal ≡ outcome_of font text span limit
unfolding outcome_of
refused_is font text span limit refusal some = rw some refl

-- ---- what was appended

-- items that were appended, as those of a span
pub are_items : (font : FontValue) (text : List ℕ) (span : Span) (limit : ℕ) (before after : List PlacedItem) (outcome : SpanOutcome)
    → AreItemsBy placed font text span limit before after outcome → AreItemsOf font text span before after outcome
are_items font text span limit before after (Set size) is =
    record { placed = is.1.items; result = is.1.result; joined = fills_span font text span is.0 size.steps is.1.items is.1.result; appended = is.1.appended }
are_items font text span limit before after (Refused refusal) is = is

module _ {O : Type 0} (made : Item → ByteRange → O) (alone : O → Item) (keeps : (item : Item) (place : ByteRange) → alone (made item place) ≡ item)
    (font : FontValue) (text : List ℕ) (span : Span) (limit : ℕ) where
  pub placed_is : (before after : List O) (size : SpanSize) → refusal_of font text span ≡ None
      → AreAppended made font (placed_run font (codes_of text span) (ends_of span)) limit before after size.steps
      → size.width ≡ total_width (map alone (drop (length before) after)) → size.items ≡ length after - length before
      → Set size ≡ outcome_of font text span limit
  placed_is before after size none is width count =
      let part : drop (length before) after ≡ is.items = ap (drop (length before)) is.appended ∙ drop-append_seam before is.items in
      let count' : size.items ≡ length (map alone is.items) = omega (arith, length-map is.items alone, length-append before is.items, ap length is.appended) in
      outcome_is font text span limit (Set size) none
      (rw ((finds_result_from font (symbols_of_span font text span) limit).found (record { steps = size.steps; items = map alone is.items })
      (sym (result_alone made alone keeps font (codes_of text span) (ends_of span) size.steps) ∙ ap (option_map (map alone)) is.result) is.within)
      (ap (λ w. Set (record { width = w; items = size.items; steps = size.steps })) (width ∙ ap (λ xs. total_width (map alone xs)) part)
      ∙ ap (λ n. Set (record { width = total_width (map alone is.items); items = n; steps = size.steps })) count'))

pub steps_are : (font : FontValue) (text : List ℕ) (span : Span) (limit : ℕ) → refusal_of font text span ≡ None
    → HasNoResultFrom font (symbols_of_span font text span) limit → Refused Steps ≡ outcome_of font text span limit
steps_are font text span limit none never =
    outcome_is font text span limit (Refused Steps) none (rw ((finds_result_from font (symbols_of_span font text span) limit).none never) refl)

pub ruleset outcomes = (outcome_is, refused_is)
