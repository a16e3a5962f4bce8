-- the pairs are those before the loop and those with the right symbols so far
use Rattle.std.proofs.Common.{◌≡◌, ◌++◌, flat_map, take}
use Rattle.lig_kern.specs.Matching.{action_between}
use Rattle.font_texts.specs.Pairs.{pair_with}
use Rattle.font_texts.proofs.pairing.push_pairs_after.Given as goal

abbrev pub invariant-loop-right : goal.invariant-loop-right
invariant-loop-right l =
    l.pairs.items ≡ l.initial.pairs.items
    ++ flat_map (λ right. pair_with l.left right (action_between l.font l.left right)) (take l.right-index l.rights)
