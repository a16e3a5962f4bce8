-- Spans that are set one after the other.
use Rattle.std.proofs.Common.{◌≡◌, add-one, Bool, ℕ, ◌+◌, ◌-◌, ◌<◌, drop, drop-cons, get_or, List, [], ◌∷◌, ◌++◌, length, map, ap, refl, sym, ◌∙◌}
use Rattle.std.specs.Option.{option_map_or}
use Rattle.tfm_tables.specs.Font.{FontValue}
use Rattle.spans.specs.declared.outcome.SpanOutcome.{SpanOutcome}
use Rattle.spans.specs.declared.outcome.SpanOutcome.TheVariants.{Set, Refused}
use Rattle.spans.specs.declared.outcome.SpanRefusal.{SpanRefusal}
use Rattle.spans.specs.declared.outcome.SpanRefusal.TheVariants.{Outside, TooLong, Missing, Steps}
use Rattle.spans.specs.declared.placed_item.PlacedItem.{PlacedItem}
use Rattle.spans.specs.PlaceLaws.{AreItemsOf}
use Rattle.tfmset_c.specs.Arrays.{ArePut, held}
use Rattle.tfmset_c.specs.Filling.{AreUnderWay, wanted}
use Rattle.tfmset_c.specs.Spans.{SpanTerms, items_told, job_terms, placed_told, span_items, span_of, span_told, span_within, spans_told}
use Rattle.tfmset_c.specs.declared.lines.TfmsetCounts.{TfmsetCounts}
use Rattle.tfmset_c.specs.declared.lines.TfmsetLine.{TfmsetLine}
use Rattle.tfmset_c.specs.declared.span.TfmsetPlaced.{TfmsetPlaced}
use Rattle.tfmset_c.specs.declared.span.TfmsetSpan.{TfmsetSpan}
use Rattle.tfmset_c.proofs.FillingLemmas.{none_wanted, one_more}

-- the result of the first span, and those of the others
spans_first : (terms : SpanTerms) (left left' items : ℕ) (rest more : List TfmsetSpan) (span : TfmsetSpan) (line : TfmsetLine) → rest ≡ span ∷ more
    → line ≡ span_within terms left (held items) span → left' ≡ left - line.steps
    → spans_told terms left items rest ≡ line ∷ spans_told terms left' (items + line.count) more
unfolding spans_told
spans_first terms left left' items rest more span line first is fewer =
    ap (spans_told terms left items) first
    ∙ ap (λ (l : TfmsetLine). l ∷ spans_told terms (left - l.steps) (items + l.count) more) (sym is)
    ∙ ap (λ n. line ∷ spans_told terms n (items + line.count) more) (sym fewer)

-- without spans there are no results
pub no_spans : (terms : SpanTerms) (left items : ℕ) (rest : List TfmsetSpan) → rest ≡ [] → spans_told terms left items rest ≡ []
unfolding spans_told
no_spans terms left items rest none = ap (spans_told terms left items) none

-- the items of the first span, and of the others
items_first : (terms : SpanTerms) (rest more : List TfmsetSpan) (span : TfmsetSpan) (line : TfmsetLine) (lines others : List TfmsetLine)
    → rest ≡ span ∷ more → lines ≡ line ∷ others → items_told terms rest lines ≡ span_items terms span line ++ items_told terms more others
unfolding items_told
items_first terms rest more span line lines others first cut = rw (first, cut) refl

pub no_items : (terms : SpanTerms) (rest : List TfmsetSpan) (lines : List TfmsetLine) → rest ≡ [] → items_told terms rest lines ≡ []
unfolding items_told
no_items terms rest lines none = rw none refl

-- one span more
pub span_more : (terms : SpanTerms) {w : Bool} {all : List TfmsetLine} {placed : List TfmsetPlaced} (left left' : ℕ) {rest more : List TfmsetSpan} (span : TfmsetSpan)
    {line : TfmsetLine} {counts next : TfmsetCounts} {at at' : ℕ} {lines_before lines lines' : List TfmsetLine} {items_before items items' : List TfmsetPlaced}
    (made : List PlacedItem) → rest ≡ span ∷ more → line ≡ span_within terms left counts.items span → left' ≡ left - line.steps
    → map placed_told made ≡ wanted w (span_items terms span line) → ArePut (line ∷ []) counts.lines next.lines lines lines'
    → next.items ≡ held (counts.items + line.count) → ArePut (map placed_told made) at at' items items'
    → AreUnderWay w all placed (λ n. spans_told terms left n rest) (items_told terms rest) counts at lines_before lines items_before items
    → AreUnderWay w all placed (λ n. spans_told terms left' n more) (items_told terms more) next at' lines_before lines' items_before items'
span_more terms {w} {all} {placed} left left' {rest} {more} span {line} {counts} {next} {at} {at'} {lines_before} {lines} {lines'} {items_before} {items} {items'}
    made first is fewer are put_line counted put_items way =
    one_more (λ n. spans_told terms left n rest) (λ n. spans_told terms left' n more) (items_told terms rest) (items_told terms more) (span_items terms span line) (map placed_told made)
    (λ n so_far. spans_first terms left left' n rest more span line first (is ∙ ap (λ k. span_within terms left k span) so_far) fewer)
    (λ others. items_first terms rest more span line (line ∷ others) others first refl)
    are put_line counted put_items way

-- ---- one span

-- the spans from an index on are the span there, and the spans after it
pub next_span : (spans : List TfmsetSpan) (i : ℕ) (d : TfmsetSpan) → i < length spans → drop i spans ≡ get_or spans i d ∷ drop (i + 1) spans
next_span spans i d within = rw add-one (drop-cons spans i d within)

-- the items of a span that is refused
none_of : (terms : SpanTerms) (limit first : ℕ) (span : TfmsetSpan) (refusal : SpanRefusal) (line : TfmsetLine)
    → line ≡ span_told limit first span (Refused refusal) → span_items terms span line ≡ []
unfolding span_told span_items
none_of terms limit first span refusal line is = ap (span_items terms span) is ∙ by refusal
  where
    by : (refusal : SpanRefusal) → span_items terms span (span_told limit first span (Refused refusal)) ≡ []
    by Outside = refl
    by TooLong = refl
    by (Missing offset code) = refl
    by Steps = refl

-- the items that were placed for a span are those of its result
pub items_are : (font : FontValue) (text : List ℕ) (limit first : ℕ) (span : TfmsetSpan) (outcome : SpanOutcome) (before after : List PlacedItem)
    (line : TfmsetLine) → before ≡ [] → AreItemsOf font text (span_of span) before after outcome → line ≡ span_told limit first span outcome
    → map placed_told after ≡ span_items (job_terms font text limit) span line
unfolding span_told span_items none_of
items_are font text limit first span (Set size) before after line none placed is =
    ap (map placed_told) (placed.appended ∙ ap (λ xs. xs ++ placed.placed) none)
    ∙ sym (ap (span_items (job_terms font text limit) span) is ∙ ap (λ o. option_map_or (map placed_told) o []) placed.result)
items_are font text limit first span (Refused refusal) before after line none same is =
    ap (map placed_told) (same ∙ none) ∙ sym (none_of (job_terms font text limit) limit first span refusal line is)

-- a span for which no steps are left has none
pub none_left : (terms : SpanTerms) (w : Bool) (first : ℕ) (span : TfmsetSpan) (after : List PlacedItem) (line : TfmsetLine) → after ≡ []
    → line ≡ span_told 0 first span (Refused Steps) → map placed_told after ≡ wanted w (span_items terms span line)
none_left terms w first span after line none is = ap (map placed_told) none ∙ sym (ap (wanted w) (none_of terms 0 first span Steps line is) ∙ none_wanted TfmsetPlaced w)
