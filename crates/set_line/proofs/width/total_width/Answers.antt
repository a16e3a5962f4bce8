use Rattle.std.proofs.Common.{◌≡◌, rules, to_z, of_z, w64, ap, ◌∙◌}
use Rattle.std.proofs.lemmas.Int.{to_z-of_z}
use Rattle.set_line.proofs.WidthLemmas.{above_next, below_next, next_width}
use Rattle.set_line.proofs.width.total_width.Goals as goal

pub loop-one-preserved : goal.loop-one-preserved
loop-one-preserved g c =
    let read : to_z w64 (of_z w64 c.with_item-width.result) ≡ c.with_item-width.result = to_z-of_z w64 c.with_item-width.result (search rules) in
    rw read (record {
      sum = c.with_item-width.ensures.sum
          ∙ next_width g.O.RunItem.alone c.args.items.now c.loop-one.one-index _ _ _ (c.item.ensures ∙ ap g.O.RunItem.alone c.one-item.is) c.loop-one-test.true c.loop-one.invariant.sum;
      below = below_next c.loop-one.one-index _ c.with_item-width.result c.loop-one.invariant.below c.with_item-width.ensures.below;
      above = above_next c.loop-one.one-index _ c.with_item-width.result c.loop-one.invariant.above c.with_item-width.ensures.above;
    })
