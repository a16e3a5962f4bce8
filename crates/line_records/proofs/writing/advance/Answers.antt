use Rattle.std.proofs.Common.{arith, refl, ◌+◌, ◌∙◌}
use Rattle.line_records.proofs.WrittenLemmas.{small_next, written_next}
use Rattle.line_records.proofs.writing.advance.Goals as goal

pub loop-at-preserved : goal.loop-at-preserved
loop-at-preserved c = record {
  cells = c.loop-at.invariant.cells;
  small = small_next c.loop-at.at (c.loop-at.at + 1) c.loop-at.so_far c.in-Some.after c.loop-at.invariant.small c.in-Some.ensures.next refl;
  room = c.in-Some.ensures.room ∙ c.loop-at.invariant.room;
  within = c.in-Some.ensures.within;
  written = λ way.
      written_next c.args.table.now c.args.line.now c.loop-at.room c.step.new.room c.loop-at.at (c.loop-at.at + 1) c.loop-at.so_far c.in-Some.after
      (c.loop-at.invariant.written way) (rw c.from.ensures at (c.in-Some.ensures.step c.args.table.now c.loop-at.invariant.cells)) (omega arith) (omega (arith, c.type_inv.line c.loop-at.at)) refl;
}
