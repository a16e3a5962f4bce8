-- the text consists of the text before the loop and the lines of the pairs so far
use Rattle.std.proofs.Common.{◌≡◌, ◌++◌, flat_map, take}
use Rattle.font_texts.specs.PairCharacters.{pair_line_with}
use Rattle.font_texts.proofs.pair_lines.push_lines.Given as goal

abbrev pub invariant-loop-pair : goal.invariant-loop-pair
invariant-loop-pair l =
    l.text.items ≡ l.initial.text.items ++ flat_map (pair_line_with l.layout.unit l.layout.encoding l.layout.format) (take l.pair-index l.pairs)
