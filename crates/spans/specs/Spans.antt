-- A span of a text: the run that it is, and its outcome, which is the first that applies of outside of the
-- text, too long, missing character, set and too many steps.
-- Public source: tex.web, sections 913 to 916, for the hyphen, which is the pre-break text of hyphenation, and 906 to
-- 911 and 1034 to 1040 for the boundaries of a part of a word; the result of a run is that of The METAFONTbook,
-- Appendix F. The refusals are this project's own.
use Rattle.std.specs.Prelude.{◌≡◌, ℕ, ◌+◌, ◌≤◌, nat_lt, Bool, not, List, ◌++◌, length, take, drop, slice_index, Option, Some, if◌then◌else◌}
use Rattle.std.specs.List.{position}
use Rattle.std.specs.Option.{option_map, option_map_or}
use Rattle.tfm_tables.specs.Font.{FontValue}
use Rattle.tfm_tables.specs.Character.{exists}
use Rattle.lig_kern.specs.declared.ends.Ends.{Ends}
use Rattle.lig_kern.specs.declared.symbol.Symbol.{Symbol}
use Rattle.lig_kern.specs.Places.{hyphen_codes, run_symbols}
use Rattle.lig_kern.specs.Result.{Setting, result_within}
use Rattle.set_line.specs.Width.{total_width}
use Rattle.spans.specs.declared.span.Span.{Span}
use Rattle.spans.specs.declared.outcome.SpanOutcome.{SpanOutcome}
use Rattle.spans.specs.declared.outcome.SpanOutcome.TheVariants.{Set, Refused}
use Rattle.spans.specs.declared.outcome.SpanRefusal.{SpanRefusal}
use Rattle.spans.specs.declared.outcome.SpanRefusal.TheVariants.{Outside, TooLong, Missing, Steps}

-- the codes of a span: its bytes in the text
abbrev pub codes_of : List ℕ → Span → List ℕ
codes_of text span = take span.length (drop span.offset text)

-- the codes of the run: those of the span, and the hyphen after them
abbrev pub run_of : List ℕ → Span → List ℕ
run_of text span = codes_of text span ++ hyphen_codes span.hyphen

-- a span that ends within the text and isn't too long, and its codes
pub record HasCodes (text : List ℕ) (span : Span) (codes : List ℕ) : Type 0 where
  pub are : codes ≡ codes_of text span
  pub within : span.offset + span.length ≤ length text
  pub long : length codes ≡ span.length
  pub short : span.length ≤ 65535

-- the ends of the run: the boundaries that the edges state, and the hyphen
abbrev pub ends_of : Span → Ends
ends_of span = record { offset = span.offset; left = span.left; hyphen = span.hyphen; right = span.right }

-- the symbols of the run
abbrev pub symbols_of_span : FontValue → List ℕ → Span → List Symbol
symbols_of_span font text span = run_symbols font (codes_of text span) (ends_of span)

-- ---- the refusals that come first

-- whether a code is no character of the font
abbrev pub is_missing : FontValue → ℕ → Bool
is_missing font code = not (exists font.words code)

-- the refusal for the first code of the run that is no character of the font; the hyphen's offset is the end
-- of the span
abbrev pub missing_in : FontValue → List ℕ → Span → Option SpanRefusal
missing_in font text span = option_map (λ i. Missing (span.offset + i) (slice_index (run_of text span) i)) (position (is_missing font) (run_of text span))

-- the refusal that is known before the run is set: the end of the span is after the end of the text;
-- otherwise, it has more than 65,535 codes; otherwise, for a missing character
unfoldable pub refusal_of : FontValue → List ℕ → Span → Option SpanRefusal
refusal_of font text span =
    if nat_lt (length text) (span.offset + span.length) then Some Outside
    else (if nat_lt 65535 span.length then Some TooLong else missing_in font text span)

-- ---- the outcome

-- a span whose run has this setting: the width, the number of items and the number of steps
abbrev pub set_as : Setting → SpanOutcome
set_as setting = Set (record { width = total_width setting.items; items = length setting.items; steps = setting.steps })

-- the outcome of a run that isn't refused before it is set: it is set, or takes too many steps
abbrev pub set_or_refused : FontValue → List Symbol → ℕ → SpanOutcome
set_or_refused font symbols limit = option_map_or set_as (result_within font symbols limit) (Refused Steps)

-- the outcome of a span
unfoldable pub outcome_of : FontValue → List ℕ → Span → ℕ → SpanOutcome
outcome_of font text span limit = option_map_or Refused (refusal_of font text span) (set_or_refused font (symbols_of_span font text span) limit)
