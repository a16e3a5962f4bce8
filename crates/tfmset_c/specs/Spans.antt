-- Spans of a text, and their results and items as C gets them.
-- This project's own; the outcome of a span is defined in Spans of `spans`, and its items in Places of `spans`.
use Rattle.std.specs.Prelude.{◌≡◌, ◌≢◌, ◌⊎◌, ℕ, ◌+◌, ◌-◌, ◌==◌, ◌&&◌, ◌||◌, nat_le, nat_lt, Bool, false, List, [], ◌∷◌, ◌++◌, length, map, Some, None, if◌then◌else◌}
use Rattle.std.specs.List.{list_all}
use Rattle.std.specs.Option.{option_map_or}
use Rattle.tfm_tables.specs.Font.{FontValue}
use Rattle.spans.specs.declared.outcome.SpanOutcome.{SpanOutcome}
use Rattle.spans.specs.declared.outcome.SpanOutcome.TheVariants.{Set, Refused}
use Rattle.spans.specs.declared.outcome.SpanRefusal.TheVariants.{Outside, TooLong, Missing, Steps}
use Rattle.spans.specs.declared.placed_item.PlacedItem.{PlacedItem}
use Rattle.spans.specs.declared.span.Span.{Span}
use Rattle.spans.specs.Places.{places_of}
use Rattle.spans.specs.Spans.{outcome_of}
use Rattle.tfmset_c.specs.Arrays.{held}
use Rattle.tfmset_c.specs.Options.{IsOutOfRange, call_limit_of, limit_of}
use Rattle.tfmset_c.specs.Texts.{item_told, refused_with}
use Rattle.tfmset_c.specs.declared.lines.TfmsetLine.{TfmsetLine}
use Rattle.tfmset_c.specs.declared.options.TfmsetOptions.{TfmsetOptions}
use Rattle.tfmset_c.specs.declared.span.TfmsetPlaced.{TfmsetPlaced}
use Rattle.tfmset_c.specs.declared.span.TfmsetSpan.{TfmsetSpan}

-- ---- what C passes

-- a span with two bits for its edges, and with a code or 256 for its hyphen
abbrev pub is_in_range : TfmsetSpan → Bool
is_in_range span = nat_le span.edges 3 && nat_le span.hyphen 256

-- an argument of a call that sets spans is out of range
abbrev pub IsNoCall : TfmsetOptions → List TfmsetSpan → Type 0
IsNoCall options spans =
    IsOutOfRange options ⊎ ((options.policy ≢ 0) ⊎ ((options.crlf ≢ 0) ⊎ (list_all is_in_range spans ≡ false)))

-- a span: the first bit of the edges is the left one, the second bit is the right one, and 256 is no hyphen
unfoldable pub span_of : TfmsetSpan → Span
span_of span = record {
  offset = span.offset;
  length = span.length;
  left = (span.edges == 1) || (span.edges == 3);
  right = nat_le 2 span.edges;
  hyphen = if nat_lt span.hyphen 256 then Some span.hyphen else None;
}

-- what is the same for all spans of a call: the font, the text, and the largest number of steps
pub record SpanTerms : Type 0 where
  pub font : FontValue
  pub text : List ℕ
  pub limit : ℕ

-- ---- the results

-- the result of a span with this outcome; its first item has this index
unfoldable pub span_told : ℕ → ℕ → TfmsetSpan → SpanOutcome → TfmsetLine
span_told limit first span (Set size) =
    record { width = size.width; first = first; count = size.items; place = 0; steps = size.steps; refusal = 0; code = 0 }
span_told limit first span (Refused (Missing offset code)) = refused_with first 1 offset 0 code
span_told limit first span (Refused TooLong) = refused_with first 2 span.length 0 0
span_told limit first span (Refused Steps) = refused_with first 3 0 limit 0
span_told limit first span (Refused Outside) = refused_with first 4 0 0 0

-- the result of a span of which this many steps are left for the call: if none is left, it is refused, and isn't set
unfoldable pub span_within : SpanTerms → ℕ → ℕ → TfmsetSpan → TfmsetLine
span_within terms left first span =
    if left == 0 then span_told 0 first span (Refused Steps)
    else span_told terms.limit first span (outcome_of terms.font terms.text (span_of span) terms.limit)

-- the results of spans, in order: each span takes its steps from those that are left for the call; this many items
-- precede the items of the first span
unfoldable pub spans_told : SpanTerms → ℕ → ℕ → List TfmsetSpan → List TfmsetLine
spans_told terms left before [] = []
spans_told terms left before (span ∷ spans) =
    span_within terms left (held before) span
    ∷ spans_told terms (left - (span_within terms left (held before) span).steps)
    (before + (span_within terms left (held before) span).count) spans

-- ---- the items

-- an item, with the bytes that it comes from
unfoldable pub placed_told : PlacedItem → TfmsetPlaced
placed_told one = record {
  offset = one.place.start;
  length = one.place.end - one.place.start;
  kind = (item_told one.item).kind;
  code = (item_told one.item).code;
  width = (item_told one.item).width;
}

-- the items of a span with this result; a refused one has none
unfoldable pub span_items : SpanTerms → TfmsetSpan → TfmsetLine → List TfmsetPlaced
span_items terms span line =
    if line.refusal == 0 then option_map_or (map placed_told) (places_of terms.font terms.text (span_of span) line.steps) []
    else []

-- the items of spans with these results, in order
unfoldable pub items_told : SpanTerms → List TfmsetSpan → List TfmsetLine → List TfmsetPlaced
items_told terms [] lines = []
items_told terms (span ∷ spans) [] = []
items_told terms (span ∷ spans) (line ∷ lines) = span_items terms span line ++ items_told terms spans lines

-- ---- a call

-- what is the same for all spans of a call with this font
abbrev pub job_terms : FontValue → List ℕ → ℕ → SpanTerms
job_terms font text limit = record { font = font; text = text; limit = limit }

-- the same with these options
abbrev pub terms_for : FontValue → TfmsetOptions → List ℕ → SpanTerms
terms_for font options text = job_terms font text (limit_of options.limit)

-- the results of the spans of a call with this font
abbrev pub spans_at : FontValue → TfmsetOptions → List ℕ → List TfmsetSpan → List TfmsetLine
spans_at font options text spans = spans_told (terms_for font options text) (call_limit_of options.call_limit) 0 spans

-- and their items
abbrev pub items_at : FontValue → TfmsetOptions → List ℕ → List TfmsetSpan → List TfmsetPlaced
items_at font options text spans = items_told (terms_for font options text) spans (spans_at font options text spans)
