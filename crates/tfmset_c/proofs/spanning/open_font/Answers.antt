use Rattle.std.proofs.Common.{◌≡◌, Some, None, arith, ◌∙◌}
use Rattle.tfmset_c.specs.Reading.{font_at}
use Rattle.tfmset_c.proofs.FontLemmas.{file_opens, table_opens}
use Rattle.tfmset_c.proofs.spanning.open_font.Goals.{else-size-ne0-via-then-size-ne0+else-size, else-size-ne0-via-else-size-ne0}
use Rattle.tfmset_c.proofs.spanning.open_font.Goals as goal

pub returns-in-Some-clause-ok : goal.returns-in-Some-clause-ok
returns-in-Some-clause-ok c =
    rw c.in-Some.ensures.whole.0
    (table_opens c.args.bytes.now c.args.size (λ k. omega (arith, c.type_inv.bytes k)) c.in-Some.ensures.whole.1
    (elim c.else-size-ne0.branch [
      | else-size-ne0-via-then-size-ne0+else-size w ↦ λ other. other.1.1 (rw c.in-Some.ensures.whole.0 at (w.if-size.false ∙ w.size.ensures.stated))
      | else-size-ne0-via-else-size-ne0 w ↦ λ other. other.1.0 w.if-size-ne0.false
    ]))

pub unreachable-requires : goal.unreachable-requires
unreachable-requires c =
    let opened : c.open-2.result ≡ Some c.deref.result.now = c.open-2.ensures.opened (font_at c.args.bytes.now c.args.size) (rw c.deref.ensures.value c.in-Ok.ensures.ok) in
    let none : c.open-2.result ≡ None = c.in-None.is in absurd (cc)

pub returns-clause-ok : goal.returns-clause-ok
returns-clause-ok c =
    rw (c.in-Some-open.ensures.whole.0, c.deref.ensures.value)
    (file_opens c.args.bytes.now c.in-Ok.table.items c.args.size c.in_default.ensures.whole
    (λ font is. let opened : c.open.result ≡ Some c.args.bytes.now = c.open.ensures.opened font is in let none : c.open.result ≡ None = c.in_default.is in absurd (cc))
    c.in-Ok.ensures.accepted c.in-Ok.ensures.ok)
