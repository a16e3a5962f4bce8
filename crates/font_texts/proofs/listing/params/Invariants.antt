-- the text consists of the lines of the parameters so far
use Rattle.std.proofs.Common.{◌≡◌, flat_map}
use Rattle.std.specs.List.{range_with_len}
use Rattle.font_texts.specs.Listing.{param_line}
use Rattle.font_texts.proofs.listing.params.Given as goal

abbrev pub invariant-loop-i : goal.invariant-loop-i
invariant-loop-i l = l.text.items ≡ flat_map (param_line l.layout l.font) (range_with_len 1 l.i)
