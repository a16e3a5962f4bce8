use Rattle.std.proofs.Common.{[], ◌∙◌, ap, arith}
use Rattle.std.specs.List.{count_by}
use Rattle.set_line.specs.Onward.{setting}
use Rattle.set_line.specs.Pieces.{is_space}
use Rattle.line_records.specs.Cells.{Style}
use Rattle.line_records.specs.Kept.{spaces_for}
use Rattle.line_records.proofs.KeptLemmas.{maybe_refused}
use Rattle.line_records.proofs.WrittenLemmas.{set_as}
use Rattle.line_records.proofs.keeping.set_plainly.Goals as goal

pub returns-in-Ok-clause-kept : goal.returns-in-Ok-clause-kept
returns-in-Ok-clause-kept c =
    set_as c.args.table.now c.args.terms.now c.args.codes.now c.write_line.new.room.items c.in-Ok.line c.count_codes-spaces.result c.as_kept.result c.in-Ok.ensures.whole c.requires.fits c.requires.short
    (omega (arith, c.if-line-get.true, c.get.ensures.value, c.limit.ensures)) (omega (arith, c.in-Ok.ensures.within, c.write_line.new.room.ok.0))
    (c.count_codes-spaces.ensures ∙ ap (λ (style : Style). spaces_for style.format (count_by is_space c.args.codes.now)) c.table.view_is) c.as_kept.ensures

pub returns-in-Err-clause-kept : goal.returns-in-Err-clause-kept
returns-in-Err-clause-kept c =
    maybe_refused c.args.table.now.format c.args.terms.now (setting 0 []) c.args.codes.now c.write_line.new.room.items c.refuses.result c.then_some.result c.then_some.ensures c.refuses.ensures
