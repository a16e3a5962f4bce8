-- the pairs are those after the left symbols so far
use Rattle.std.proofs.Common.{◌≡◌, flat_map, take}
use Rattle.font_texts.specs.Pairs.{pairs_after}
use Rattle.font_texts.proofs.pairing.pairs.Given as goal

abbrev pub invariant-loop-left : goal.invariant-loop-left
invariant-loop-left l = l.pairs.items ≡ flat_map (pairs_after l.font) (take l.left-index l.left-items)
