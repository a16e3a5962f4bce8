-- Laws of the places, stated with their definitions. This project's own, about the rewriting of The
-- METAFONTbook, Appendix F.
use Rattle.std.specs.Prelude.{⊤, ◌≡◌, ℕ, ◌+◌, ◌*◌, ◌≤◌, List, [], ◌∷◌, ◌++◌, length, map, Some}
use Rattle.std.specs.Option.{option_map}
use Rattle.tfm_tables.specs.Font.{FontValue}
use Rattle.lig_kern.specs.declared.item.Item.{Item}
use Rattle.lig_kern.specs.declared.byte_range.ByteRange.{ByteRange}
use Rattle.lig_kern.specs.Places.{AreAppended, placed_run}
use Rattle.lig_kern.specs.Result.{result_from}
use Rattle.tfm_words.specs.Appending.{StaysInFront}
use Rattle.spans.specs.declared.outcome.SpanOutcome.{SpanOutcome}
use Rattle.spans.specs.declared.outcome.SpanOutcome.TheVariants.{Set, Refused}
use Rattle.spans.specs.declared.span.Span.{Span}
use Rattle.spans.specs.declared.placed_item.PlacedItem.{PlacedItem}
use Rattle.spans.specs.Spans.{codes_of, ends_of, symbols_of_span}
use Rattle.spans.specs.Places.{places_of}

-- without the places, the items of a span are those of its run, after the same number of steps
abbrev pub HasSameItems : FontValue → List ℕ → Span → Type 0
HasSameItems font text span =
    (n : ℕ) → option_map (map (λ one. one.item)) (places_of font text span n) ≡ result_from font (symbols_of_span font text span) n

-- places that follow one another from `low` to `high`: each byte there is in exactly one of them, and their
-- starts never decrease
abbrev pub AreJoined : ℕ → List ByteRange → ℕ → Type 0
AreJoined low [] high = low ≡ high
AreJoined low (place ∷ places) high = (place.start ≡ low) × (place.start ≤ place.end) × AreJoined place.end places high

-- the places of items follow one another between these bounds
abbrev pub ItemsAreJoined : ℕ → List PlacedItem → ℕ → Type 0
ItemsAreJoined low placed high = AreJoined low (map (λ one. one.place) placed) high

-- the places of the items of a span follow one another from its start to its end
abbrev pub FillSpan : FontValue → List ℕ → Span → Type 0
FillSpan font text span =
    span.offset + span.length ≤ length text
    → (n : ℕ) (placed : List PlacedItem) → places_of font text span n ≡ Some placed
    → ItemsAreJoined span.offset placed (span.offset + span.length)

-- the items of a span with their places, after this many steps, were appended to a list
pub record ArePlaced (font : FontValue) (text : List ℕ) (span : Span) (before after : List PlacedItem) (steps : ℕ) : Type 0 where
  pub placed : List PlacedItem
  pub result : places_of font text span steps ≡ Some placed
  pub joined : ItemsAreJoined span.offset placed (span.offset + span.length)
  pub appended : after ≡ before ++ placed

-- the items of a span that was set were appended
abbrev pub AreItemsOf : FontValue → List ℕ → Span → List PlacedItem → List PlacedItem → SpanOutcome → Type 0
AreItemsOf font text span before after (Set size) = ArePlaced font text span before after size.steps
AreItemsOf font text span before after (Refused refusal) = after ≡ before

-- the items of a span that was set within this limit were appended, of each of which `made` is kept
abbrev pub AreItemsBy : {O : Type 0} → (Item → ByteRange → O) → FontValue → List ℕ → Span → ℕ → List O → List O → SpanOutcome → Type 0
AreItemsBy made font text span limit before after (Set size) =
    (span.offset + span.length ≤ length text) × AreAppended made font (placed_run font (codes_of text span) (ends_of span)) limit before after size.steps
AreItemsBy made font text span limit before after (Refused refusal) = after ≡ before

-- what holds of the outcome of a span with any data in place of a font: the number of steps is within the
-- limit, and there are at most two items for each step, and one more
abbrev pub IsBounded : ℕ → SpanOutcome → Type 0
IsBounded limit (Set size) = (size.steps ≤ limit) × (size.items ≤ 2 * size.steps + 1)
IsBounded limit (Refused refusal) = ⊤

-- and what holds of the list to which the items are appended: it has so many more, after its own; after a
-- refusal it is unchanged
abbrev pub HasGrown : {O : Type 0} → List O → List O → SpanOutcome → Type 0
HasGrown before after (Set size) = (length after ≡ length before + size.items) × StaysInFront before after
HasGrown before after (Refused refusal) = after ≡ before
