use Rattle.std.proofs.Common.{◌≡◌, ◌+◌, ◌*◌, ◌∙◌, ap, arith, refl, subst, sym}
use Rattle.line_records.specs.Cells.{IsCell, Style}
use Rattle.line_records.proofs.CellLemmas.{one_cell}
use Rattle.line_records.proofs.table.TextTable.make.Goals as goal

pub invariant_of-self : goal.invariant_of-self
invariant_of-self c =
    let inside = c.self.inside in
    let terms = c.args.terms.now in
    let more = c.make_cell-cell.new.entries.items in
    let font : inside.font.value ≡ terms.font = ap (λ (s : Style). s.font) c.self.view_is ∙ c.requires.fits.0 in
    let policy : inside.policy ≡ terms.policy = ap (λ (s : Style). s.policy) c.self.view_is ∙ c.requires.fits.1 in
    one_cell (record { font = inside.font.value; policy = inside.policy; format = inside.format }) inside.entries.items more inside.cells.items
    c.args.row c.args.next (256 * c.args.next + c.args.row) c.make_cell-cell.result c.self.invariant c.make_cell-cell.ensures.front
    (omega (arith, c.make_cell-cell.ensures.few, c.make_cell-cell.new.entries.ok.0)) c.requires.row c.requires.next refl
    (subst (λ f. IsCell (record { font = f; policy = inside.policy; format = inside.format }) more c.args.row c.args.next c.make_cell-cell.result) (sym font)
    (subst (λ p. IsCell (record { font = terms.font; policy = p; format = inside.format }) more c.args.row c.args.next c.make_cell-cell.result) (sym policy)
    c.make_cell-cell.ensures.cell))
