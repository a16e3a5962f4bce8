use Rattle.std.proofs.Common.{◌+◌, arith, refl, sym, ◌∙◌}
use Rattle.tfm_words.proofs.AppendingLemmas.{front_through, front_at_once}
use Rattle.lig_kern.proofs.UnderWay.{ends_at, moved_on, never_ends}
use Rattle.lig_kern.proofs.walking.walk.Goals as goal

pub loop-next-init : goal.loop-next-init
loop-next-init g c = record { within = omega arith; front = front_at_once c.args.out.now.items; few = omega arith; moved = λ value is first symbols before way. way }

pub loop-next-preserved : goal.loop-next-preserved
loop-next-preserved g c = record {
  within = omega arith;
  front = front_through c.args.out.now.items c.loop-next.out.items c.step.new.out.items c.loop-next.invariant.front c.step.ensures.front;
  few = omega (arith, c.loop-next.invariant.few, c.in_ok-current.ensures.few);
  moved = λ value is first symbols before way.
      moved_on g.O.RunItem.made value c.loop-next.used 1 (c.loop-next.used + 1) first c.loop-next.current c.in_ok-current.current symbols c.loop-next.ahead c.step.new.ahead
      before c.loop-next.out.items c.step.new.out.items (c.loop-next.invariant.moved value is first symbols before way) (c.in_ok-current.ensures.moved value is) refl;
}

pub returns-then-used-steps_left-clause-ended : goal.returns-then-used-steps_left-clause-ended
returns-then-used-steps_left-clause-ended g c = λ value is first symbols before way.
    never_ends g.O.RunItem.made value first symbols c.loop-next.used c.args.steps_left c.loop-next.current c.loop-next.ahead c.in-Some.next before c.loop-next.out.items
    (c.loop-next.invariant.moved value is first symbols before way) (sym c.first.ensures ∙ c.in-Some.is) (omega arith)

pub returns-clause-ended : goal.returns-clause-ended
returns-clause-ended g c = λ value is first symbols before way.
    ends_at g.O.RunItem.made value first symbols c.loop-next.used c.args.steps_left c.loop-next.current c.loop-next.ahead before c.loop-next.out.items c.push_symbol.new.out.items
    (c.loop-next.invariant.moved value is first symbols before way) (sym c.first.ensures ∙ c.in_default.is) (omega arith) (c.in_ok-push_symbol.ensures.sent value is)
