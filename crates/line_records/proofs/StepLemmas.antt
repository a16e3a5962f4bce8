-- One step of a line that is written: what the cell of the table says, and the bytes that are copied.
use Rattle.std.proofs.Common.{◌≡◌, ℕ, ◌+◌, ◌-◌, ◌%◌, ◌*◌, ◌<◌, ◌≤◌, ◌+ℤ◌, List, [], ◌++◌, length, take, get_or, arith, ap, sym, subst, ◌∙◌, append-nil}
use Rattle.std.proofs.Math.IntN.{+ℤ_idr}
use Rattle.std.proofs.Math.Seq.{take-append-add}
use Rattle.std.proofs.lemmas.List.{length-take-le, take-append-le}
use borrow.Rule.Slice.PartMut.{post_of, put_mid}
use Rattle.line_records.specs.Additions.{one_step}
use Rattle.line_records.specs.Cells.{AreCells, IsCell, IsEntry, Style, symbol_of}
use Rattle.line_records.specs.Written.{IsStep}
use Rattle.line_records.specs.declared.text_entry.TextEntry.{TextEntry}
use Rattle.line_records.specs.declared.line_state.LineState.{LineState}

-- the front of a text with bytes copied behind it
copied : (at size count : ℕ) (room bytes : List ℕ) → at ≤ length room → count ≤ length bytes
    → take (at + count) (put_mid at size room bytes) ≡ take at room ++ take count bytes
copied at size count room bytes within few =
    let front : length (take at room) ≡ at = length-take-le at room within in
    ap (λ n. take (n + count) (put_mid at size room bytes)) (sym front)
    ∙ take-append-add (take at room) (bytes ++ post_of at size room) count
    ∙ ap (λ xs. take at room ++ xs) (take-append-le count bytes (post_of at size room) few)

-- the cell of a row and a byte
cell_there : (style : Style) (entries : List TextEntry) (cells : List ℕ) (row next cell : ℕ) → AreCells style entries cells → row < 256 → next < 257
    → cell ≡ get_or cells (256 * next + row) 0 → IsCell style entries row next cell
cell_there style entries cells row next cell are below column is =
    subst (λ n. IsCell style entries row next n) (sym is) (are.each row next below column)

pub entry_step : (style : Style) (entries : List TextEntry) (cells : List ℕ) (before after : LineState) (next cell size : ℕ) (entry : TextEntry) (old bytes : List ℕ)
    → AreCells style entries cells → before.row < 256 → next < 257 → cell ≡ get_or cells (256 * next + before.row) 0 → cell < length entries
    → entry ≡ get_or entries cell entry → bytes ≡ entry.text → before.length ≤ length old → entry.length ≤ length bytes
    → after.row ≡ next % 256 → after.length ≡ before.length + entry.length → after.steps ≡ before.steps + entry.steps
    → after.tally ≡ before.tally + entry.tally → after.width ≡ before.width +ℤ entry.width
    → IsStep style before next old (put_mid before.length size old bytes) after
entry_step style entries cells before after next cell size entry old bytes are below column is within found copy fits few row long steps sum width =
    let there : IsEntry style (symbol_of style.font before.row) next entry =
    subst (λ p. IsEntry style (symbol_of style.font before.row) next p) (sym found) ((cell_there style entries cells before.row next cell are below column is).entry entry within) in
    record {
      added = there.added;
      is = there.is;
      row = λ small. let same : after.row ≡ next = omega (arith, row) in ap (symbol_of style.font) same ∙ there.row small;
      text =
          ap (λ n. take n (put_mid before.length size old bytes)) long
          ∙ copied before.length size entry.length old bytes fits few
          ∙ ap (λ xs. take before.length old ++ take entry.length xs) copy
          ∙ ap (λ xs. take before.length old ++ xs) there.text.text;
      width = width ∙ ap (λ w. before.width +ℤ w) there.text.width;
      steps = steps ∙ ap (λ n. before.steps + n) there.text.steps;
      tally = sum ∙ ap (λ n. before.tally + n) there.text.tally;
      few = there.text.few;
    }

pub ligature_step : (style : Style) (entries : List TextEntry) (cells : List ℕ) (before after : LineState) (next cell : ℕ) (old : List ℕ)
    → AreCells style entries cells → before.row < 256 → next < 257 → cell ≡ get_or cells (256 * next + before.row) 0 → 65280 ≤ cell
    → after.row ≡ cell - 65280 → after.length ≡ before.length → after.steps ≡ before.steps + 1 → after.tally ≡ before.tally → after.width ≡ before.width
    → IsStep style before next old old after
ligature_step style entries cells before after next cell old are below column is above row long steps sum width = record {
  added = one_step [] (symbol_of style.font (cell - 65280));
  is = (cell_there style entries cells before.row next cell are below column is).ligature above;
  row = λ small. ap (symbol_of style.font) row;
  text = ap (λ n. take n old) long ∙ sym (append-nil (take before.length old));
  width = width ∙ sym (+ℤ_idr before.width);
  steps = steps;
  tally = omega (arith, sum);
  few = omega arith;
}
