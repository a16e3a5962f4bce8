-- Cells of the table of texts.
use Rattle.std.proofs.Common.{◌≡◌, ℕ, ◌+◌, ◌-◌, ◌*◌, ◌<◌, ◌≤◌, Bool, true, false, List, [], length, take, get_or, Some, arith, refl, ap, sym, subst, ◌∙◌}
use Rattle.std.specs.Prelude.{nat_eq, nat_lt, slice_set}
use Rattle.std.proofs.lemmas.Bool.{eqb-true, eqb-false, ltb-true, ltb-false}
use Rattle.std.proofs.lemmas.Grind.{get_or-set_at}
use Rattle.std.proofs.lemmas.List.{get_or-set_other, get_or-take, length-set, length-take}
use Rattle.tfm_words.specs.Appending.{StaysInFront}
use Rattle.formats.specs.declared.record_format.RecordFormat.{RecordFormat}
use Rattle.line_records.specs.Additions.{Addition, added_of, one_step}
use Rattle.line_records.specs.Cells.{AreCells, AreSame, IsCell, IsEntry, IsTextOf, Style, symbol_of}
use Rattle.line_records.specs.declared.text_entry.TextEntry.{TextEntry}

-- a cell for the general way, or one that isn't made yet, is right
pub mark_cell : (style : Style) (entries : List TextEntry) (row next cell : ℕ) → length entries ≤ 65024 → 65024 ≤ cell → cell < 65280
    → IsCell style entries row next cell
mark_cell style entries row next cell few mark below = record {
  entry = λ d within. absurd (omega arith);
  mark = λ above. mark;
  ligature = λ above. absurd (omega arith);
}

-- the cell of a ligature
pub ligature_cell : (style : Style) (entries : List TextEntry) (row next to : ℕ) → length entries ≤ 65024
    → added_of style.font style.policy (symbol_of style.font row) next ≡ Some (one_step [] (symbol_of style.font to)) → IsCell style entries row next (65280 + to)
ligature_cell style entries row next to few is = record {
  entry = λ d within. absurd (omega arith);
  mark = λ above. omega arith;
  ligature = λ above. let same : 65280 + to - 65280 ≡ to = omega arith in is ∙ ap (λ n. Some (one_step [] (symbol_of style.font n))) (sym same);
}

-- an entry that is the same has the same text
same_text : (format : RecordFormat) (added : Addition) (entry other : TextEntry) → IsTextOf format added entry → AreSame entry other → IsTextOf format added other
same_text format added entry other is same = record {
  text = ap (λ n. take n other.text) (sym same.length) ∙ ap (λ bytes. take entry.length bytes) (sym same.text) ∙ is.text;
  width = sym same.width ∙ is.width;
  steps = sym same.steps ∙ is.steps;
  tally = sym same.tally ∙ is.tally;
  few = is.few;
}

-- the cell of an entry
pub entry_cell : (style : Style) (entries : List TextEntry) (entry : TextEntry) (row next cell : ℕ) (added : Addition)
    → added_of style.font style.policy (symbol_of style.font row) next ≡ Some added → IsTextOf style.format added entry → (next < 256 → symbol_of style.font next ≡ added.current)
    → length entries ≤ 65024 → ((d : TextEntry) → cell < length entries → AreSame entry (get_or entries cell d))
    → (length entries ≤ cell → cell ≡ 65025) → IsCell style entries row next cell
entry_cell style entries entry row next cell added is text own few same mark = record {
  entry = λ d within. record { added = added; is = is; text = same_text style.format added entry (get_or entries cell d) text (same d within); row = own };
  mark = λ above. omega (arith, mark above);
  ligature = λ above. absurd (omega (arith, mark (omega arith)));
}

pub ruleset made = (mark_cell, ligature_cell, entry_cell)

-- ---- the table

-- a cell is as right with more entries
cell_kept : (style : Style) (entries more : List TextEntry) (row next cell : ℕ) → StaysInFront entries more → length more ≤ 65024
    → IsCell style entries row next cell → IsCell style more row next cell
cell_kept style entries more row next cell front few is = record {
  entry = λ d within. by (nat_lt cell (length entries)) refl d within;
  mark = λ above. is.mark (omega (arith, long));
  ligature = is.ligature;
}
  where
    long : length entries ≤ length more
    long = omega (arith, length-take (length entries) more, ap length front)

    by : (b : Bool) → nat_lt cell (length entries) ≡ b → (d : TextEntry) → cell < length more → IsEntry style (symbol_of style.font row) next (get_or more cell d)
    by true below d within =
        let there : get_or entries cell d ≡ get_or more cell d =
        ap (λ ps. get_or ps cell d) (sym front) ∙ get_or-take (length entries) more cell d (ltb-true cell (length entries) below) in
        subst (IsEntry style (symbol_of style.font row) next) there (is.entry d (ltb-true cell (length entries) below))
    by false above d within = absurd (omega (arith, is.mark (ltb-false cell (length entries) above)))

-- a table without entries, in which no cell is made yet
pub no_cells : (style : Style) (cells : List ℕ) → length cells ≡ 65792 → ((i d : ℕ) → i < 65792 → get_or cells i d ≡ 65024) → AreCells style [] cells
no_cells style cells many all = record {
  many = many;
  few = omega arith;
  each = λ row next below column.
      subst (λ n. IsCell style [] row next n) (sym (all (256 * next + row) 0 (omega arith)))
      (mark_cell style [] row next 65024 (omega arith) (omega arith) (omega arith));
}

-- a table with one more cell that is made
pub one_cell : (style : Style) (entries more : List TextEntry) (cells : List ℕ) (row next at cell : ℕ) → AreCells style entries cells
    → StaysInFront entries more → length more ≤ 65024 → row < 256 → next < 257 → at ≡ 256 * next + row → IsCell style more row next cell
    → AreCells style more (slice_set cells at cell)
one_cell style entries more cells row next at cell are front few below column place is = record {
  many = length-set cells at cell ∙ are.many;
  few = few;
  each = λ row' next' below' column'. by row' next' below' column' (nat_eq (256 * next' + row') at) refl;
}
  where
    by : (row' next' : ℕ) → row' < 256 → next' < 257 → (b : Bool) → nat_eq (256 * next' + row') at ≡ b
        → IsCell style more row' next' (get_or (slice_set cells at cell) (256 * next' + row') 0)
    by row' next' below' column' true here =
        let same : 256 * next' + row' ≡ at = eqb-true (256 * next' + row') at here in
        let rows : row' ≡ row = omega arith in
        let columns : next' ≡ next = omega arith in
        let value : get_or (slice_set cells at cell) (256 * next' + row') 0 ≡ cell =
        get_or-set_at cells at (256 * next' + row') cell 0 same (omega (arith, are.many)) in
        subst (λ n. IsCell style more row' next' n) (sym value)
        (subst (λ n. IsCell style more n next' cell) (sym rows) (subst (λ n. IsCell style more row n cell) (sym columns) is))
    by row' next' below' column' false there =
        let other : get_or (slice_set cells at cell) (256 * next' + row') 0 ≡ get_or cells (256 * next' + row') 0 =
        get_or-set_other cells at (256 * next' + row') cell 0 (λ same. eqb-false (256 * next' + row') at there same) in
        subst (λ n. IsCell style more row' next' n) (sym other) (cell_kept style entries more row' next' _ front few (are.each row' next' below' column'))

pub ruleset tables = (no_cells, one_cell)
