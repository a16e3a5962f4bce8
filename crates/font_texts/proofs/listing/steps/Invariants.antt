-- the text consists of the lines of the instructions so far
use Rattle.std.proofs.Common.{◌≡◌, flat_map}
use Rattle.std.specs.List.{range_with_len}
use Rattle.font_texts.specs.Listing.{step_line}
use Rattle.font_texts.proofs.listing.steps.Given as goal

abbrev pub invariant-loop-i : goal.invariant-loop-i
invariant-loop-i l = l.text.items ≡ flat_map (step_line l.layout l.font) (range_with_len 0 l.i)
