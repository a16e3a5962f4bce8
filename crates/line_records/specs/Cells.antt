-- The table of texts: for each current symbol, and for each byte after it or the end of the line, the text of
-- the items that are added. The text with its sums is an entry. This project's own.
use Rattle.std.specs.Prelude.{◌≡◌, ℕ, ◌+◌, ◌-◌, ◌*◌, ◌<◌, ◌≤◌, ◌^◌, List, [], length, take, get_or, flat_map, Some, if◌then◌else◌}
use Rattle.std.specs.List.{count_by}
use Rattle.run_plan.specs.declared.policy.Policy.{Policy}
use Rattle.tfm_tables.specs.Font.{FontValue}
use Rattle.lig_kern.specs.declared.item.Item.{Item}
use Rattle.lig_kern.specs.declared.symbol.Symbol.{Symbol}
use Rattle.lig_kern.specs.declared.symbol.Symbol.TheVariants.{Left, Char}
use Rattle.set_line.specs.Pieces.{is_cut}
use Rattle.set_line.specs.Terms.{TermsValue}
use Rattle.set_line.specs.Width.{total_width}
use Rattle.formats.specs.declared.record_format.RecordFormat.{RecordFormat}
use Rattle.line_records.specs.Additions.{Addition, added_of, one_step}
use Rattle.line_records.specs.Boxes.{is_skipped, item_text}
use Rattle.line_records.specs.declared.text_entry.TextEntry.{TextEntry}

-- what a table depends on: the font, the missing-character policy, and the format of the records
pub record Style : Type 0 where
  pub font : FontValue
  pub policy : Policy
  pub format : RecordFormat

-- what it depends on in these settings
abbrev pub style_of : TermsValue → RecordFormat → Style
style_of terms format = record { font = terms.font; policy = terms.policy; format = format }

-- a table is for lines with these settings
abbrev pub Fits : Style → TermsValue → Type 0
Fits style terms = (style.font ≡ terms.font) × (style.policy ≡ terms.policy)

-- the symbol that is current in a row of the table: the character with this code. The left boundary has the rows of
-- the space and of the codes that aren't characters of the font, since they are never those of a run
abbrev pub symbol_of : FontValue → ℕ → Symbol
symbol_of font row = if is_cut font row then Left else Char row

-- the number of items, plus 2^32 for each skipped one: one sum has both numbers, as long as there are fewer than 2^32
-- items
abbrev pub total_tally : List Item → ℕ
total_tally items = length items + 2 ^ 32 * count_by is_skipped items

-- an entry has the text, the width, the steps and the tally of an addition, which has at most three items
pub record IsTextOf (format : RecordFormat) (added : Addition) (entry : TextEntry) : Type 0 where
  pub text : take entry.length entry.text ≡ flat_map (item_text format) added.items
  pub width : entry.width ≡ total_width added.items
  pub steps : entry.steps ≡ added.steps
  pub tally : entry.tally ≡ total_tally added.items
  pub few : length added.items ≤ 3

-- two entries have the same text, width and steps and the same tally
pub record AreSame (one other : TextEntry) : Type 0 where
  pub text : one.text ≡ other.text
  pub length : one.length ≡ other.length
  pub width : one.width ≡ other.width
  pub steps : one.steps ≡ other.steps
  pub tally : one.tally ≡ other.tally

-- an entry is right for a byte after a symbol, or for the end of the line (256): it has the text of what is
-- added, and after a byte the symbol of the byte's own row is current
pub record IsEntry (style : Style) (current : Symbol) (next : ℕ) (entry : TextEntry) : Type 0 where
  pub added : Addition
  pub is : added_of style.font style.policy current next ≡ Some added
  pub text : IsTextOf style.format added entry
  pub row : next < 256 → symbol_of style.font next ≡ added.current

-- a cell of the table is right: if it is an index, the entry there is right, and otherwise it is at least
-- 65,024. If it is at least 65,280, a ligature replaces the current symbol and the byte; the number above
-- 65,280 is the row of this ligature
pub record IsCell (style : Style) (entries : List TextEntry) (row next cell : ℕ) : Type 0 where
  pub entry : (d : TextEntry) → cell < length entries → IsEntry style (symbol_of style.font row) next (get_or entries cell d)
  pub mark : length entries ≤ cell → 65024 ≤ cell
  pub ligature : 65280 ≤ cell → added_of style.font style.policy (symbol_of style.font row) next ≡ Some (one_step [] (symbol_of style.font (cell - 65280)))

-- the cells of a table are right: there are 257 columns, for the bytes and for the end of a line, of 256 rows
pub record AreCells (style : Style) (entries : List TextEntry) (cells : List ℕ) : Type 0 where
  pub many : length cells ≡ 65792
  pub few : length entries ≤ 65024
  pub each : (row next : ℕ) → row < 256 → next < 257 → IsCell style entries row next (get_or cells (256 * next + row) 0)
