use Rattle.std.proofs.Common.{◌≡◌, arith, refl, sym, subst, length, drop, ◌+◌, ◌∙◌}
use Rattle.std.proofs.lemmas.List.{drop_all}
use Rattle.line_records.specs.Written.{IsWritten}
use Rattle.line_records.proofs.WrittenLemmas.{small_next, whole_slice, written_next, written_whole}
use Rattle.line_records.proofs.writing.write_line.Goals as goal

pub loop-at-preserved-then-at-line : goal.loop-at-preserved-then-at-line
loop-at-preserved-then-at-line c =
    let at = c.advance-reached.result.0 in
    let before = c.advance-reached.result.1 in
    let after = c.in-Some.next in
    let long : length c.advance-reached.new.room ≡ c.loop-at.room.len = omega (arith, c.advance-reached.ensures.room, c.as_mut_slice.ensures.len, c.loop-at.room.ok.0) in
    record {
      at = omega arith;
      table = c.step_anew.ensures.table ∙ c.loop-at.invariant.table;
      small = small_next at (at + 1) before after c.advance-reached.ensures.small c.in-Some.ensures.next refl;
      within = c.in-Some.ensures.within;
      written =
          written_next c.args.table.now c.args.line.now c.advance-reached.new.room c.step_anew.new.room.items at (at + 1) before after
          (subst (λ f. IsWritten f c.args.line.now (drop at c.args.line.now) c.advance-reached.new.room before) c.loop-at.invariant.table
          (c.advance-reached.ensures.written (subst (λ f. IsWritten f c.args.line.now (drop c.loop-at.at c.args.line.now) c.as_mut_slice.result.now c.loop-at.so_far)
          (sym c.loop-at.invariant.table) (rw c.as_mut_slice.ensures.value c.loop-at.invariant.written))))
          (rw (c.from.ensures, whole_slice c.loop-at.room.len c.advance-reached.new.room (drop (length c.advance-reached.new.room) c.loop-at.room.items) long) at (rw c.loop-at.invariant.table at c.in-Some.ensures.step))
          c.if-at-line.true (omega (arith, c.type_inv.line at)) refl;
    }

pub returns-in-Some-step_anew-clause-whole : goal.returns-in-Some-step_anew-clause-whole
returns-in-Some-step_anew-clause-whole c =
    written_whole c.args.table.now c.args.line.now (drop c.loop-at.at c.args.line.now) c.loop-at.room.items c.step_anew-2.new.room.items c.loop-at.so_far
    c.in-Some-step_anew.whole c.loop-at.invariant.written
    (drop_all c.loop-at.at c.args.line.now c.loop-at-test.false) (rw c.loop-at.invariant.table at c.in-Some-step_anew.ensures.step)
