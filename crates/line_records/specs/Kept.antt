-- A line while it is set part by part, and the texts of its items.
-- This project's own representation; Results defines the result.
use Rattle.std.specs.List.{count_by, list_any}
use Rattle.std.specs.Option.{is_none, option_map_or}
use Rattle.std.specs.Prelude.{◌≡◌, ℕ, ◌+◌, ◌*◌, ◌<◌, ◌≤◌, ◌^◌, Bool, true, false, not, ◌&&◌, ◌||◌, List, flat_map, length, take, Option, Some, None, Result, Ok, Err, if◌then◌else◌}
use Rattle.run_plan.specs.declared.policy.Policy.{Policy}
use Rattle.run_plan.specs.declared.policy.Policy.TheVariants.{Refuse, Skip}
use Rattle.lig_kern.specs.declared.item.Item.{Item}
use Rattle.lig_kern.specs.Result.{Setting}
use Rattle.tfm_tables.specs.Font.{FontValue}
use Rattle.set_line.specs.declared.outcome.LineRefusal.TheVariants.{Steps}
use Rattle.set_line.specs.declared.records.text_refusal.TextRefusal.{TextRefusal}
use Rattle.set_line.specs.declared.records.text_refusal.TextRefusal.TheVariants.{Line}
use Rattle.set_line.specs.Answer.{has_refused}
use Rattle.set_line.specs.Onward.{onward, setting}
use Rattle.set_line.specs.Terms.{TermsValue}
use Rattle.set_line.specs.Width.{total_width}
use Rattle.encodings.specs.declared.encoding.Encoding.{Encoding}
use Rattle.encodings.specs.Parts.{PartValue, uncoded_after}
use Rattle.formats.specs.declared.record_format.RecordFormat.{RecordFormat}
use Rattle.formats.specs.declared.record_format.RecordFormat.TheVariants.{Items, Box}
use Rattle.line_records.specs.Boxes.{BoxValue, is_glue, is_skipped, item_text}
use Rattle.line_records.specs.declared.keeping.KeptLine.{KeptLine}
use Rattle.line_records.specs.declared.measuring.Extent.{Extent}
use Rattle.line_records.specs.declared.line_state.LineState.{LineState}
use Rattle.line_records.specs.Results.{HasSums, line_portions, line_result, refusal_in}

-- whether missing characters are refused
abbrev pub refuses : Policy → Bool
refuses Refuse = true
refuses Skip = false

-- whether a code, or the character without codes after the codes, is refused
abbrev pub refused_before : Policy → FontValue → List ℕ → Option ℕ → Bool
refused_before policy font codes uncoded = has_refused policy font codes || (refuses policy && not (is_none uncoded))

-- whether a part has something that is refused
abbrev pub refused_in : Policy → FontValue → PartValue → Bool
refused_in policy font part = refused_before policy font part.codes (uncoded_after part)

-- the setting of parts after the setting so far, if nothing is refused and the steps are within the limit
unfoldable pub set_after : TermsValue → Setting → List PartValue → Option Setting
set_after terms so_far parts =
    if list_any (refused_in terms.policy terms.font) parts then None else onward terms.font terms.limit so_far (line_portions terms.font parts)

-- lists have the texts of these items, their width, their spaces and, with the number of characters without codes,
-- their number and that of skipped ones
pub record AreListed (format : RecordFormat) (all items : List Item) (gaps : ℕ) (written : List ℕ) : Type 0 where
  pub texts : written ≡ flat_map (item_text format) all
  pub width : total_width items ≡ total_width all
  pub spaces : count_by is_glue items ≡ count_by is_glue all
  pub count : length items + gaps ≡ length all
  pub skipped : count_by is_skipped items + gaps ≡ count_by is_skipped all

-- the return value of a function that sets numbers: the number of steps, with the lists of the items; or `None`, if
-- a number is refused or the steps are above the limit
abbrev pub IsReached : RecordFormat → Option Setting → List Item → ℕ → List ℕ → Option ℕ → Type 0
IsReached format reached items gaps texts (Some steps) =
    (all : List Item) × (reached ≡ Some (setting steps all)) × AreListed format all items gaps texts
IsReached format reached items gaps texts None = reached ≡ None

-- the number of characters without codes in a part
abbrev pub gaps_in : PartValue → ℕ
gaps_in part = option_map_or (λ character. 1) (uncoded_after part) 0

-- this number of spaces if a record has it, and otherwise 0
abbrev pub spaces_for : RecordFormat → ℕ → ℕ
spaces_for (Items version) spaces = 0
spaces_for (Box unit) spaces = spaces

-- the texts of the items of a line that is set are at the front of a list
pub record HasKept (format : RecordFormat) (set : Setting) (texts : List ℕ) (kept : KeptLine) : Type 0 where
  pub sums : HasSums set kept.sums
  pub spaces : kept.spaces ≡ spaces_for format (count_by is_glue set.items)
  pub within : kept.length ≤ length texts
  pub text : take kept.length texts ≡ flat_map (item_text format) set.items

-- what was written with the table of texts, as a line that is kept, with this number of spaces
pub record IsThatOf (whole : LineState) (number : ℕ) (kept : KeptLine) : Type 0 where
  pub width : kept.sums.width ≡ whole.width
  pub steps : kept.sums.steps ≡ whole.steps
  pub tally : kept.sums.items + 2 ^ 32 * kept.sums.skipped ≡ whole.tally
  pub few : kept.sums.items < 2 ^ 32
  pub spaces : kept.spaces ≡ number
  pub length : kept.length ≡ whole.length

-- the box of a line that is kept, with this height and this depth
abbrev pub as_box : KeptLine → Extent → BoxValue
as_box kept extent = record {
  width = kept.sums.width;
  height = extent.height;
  depth = extent.depth;
  spaces = kept.spaces;
  skipped = kept.sums.skipped;
}

-- the return value of a function that sets a whole line
abbrev pub IsKept : RecordFormat → Option Setting → List ℕ → Option KeptLine → Type 0
IsKept format reached texts (Some kept) = (set : Setting) × (reached ≡ Some set) × HasKept format set texts kept
IsKept format reached texts None = reached ≡ None

-- the same for a line that may be refused
abbrev pub IsKeptResult : RecordFormat → Result Setting TextRefusal → List ℕ → Result KeptLine TextRefusal → Type 0
IsKeptResult format result texts (Ok kept) = (set : Setting) × (result ≡ Ok set) × HasKept format set texts kept
IsKeptResult format result texts (Err refusal) = result ≡ Err refusal

-- the return value of a function that sets a line that may be refused: `None` if it is refused, or if it takes more
-- steps than the limit
abbrev pub IsTried : TermsValue → Option Encoding → Bool → List ℕ → RecordFormat → List ℕ → Option KeptLine → Type 0
IsTried terms encoding first line format texts (Some kept) = IsKeptResult format (line_result terms encoding first line) texts (Ok kept)
IsTried terms encoding first line format texts None =
    refusal_in terms encoding first line ≡ None → line_result terms encoding first line ≡ Err (Line (Steps terms.limit))
