-- the text consists of the lines of the kerns so far
use Rattle.std.proofs.Common.{◌≡◌, flat_map}
use Rattle.std.specs.List.{range_with_len}
use Rattle.font_texts.specs.Listing.{kern_line}
use Rattle.font_texts.proofs.listing.kerns.Given as goal

abbrev pub invariant-loop-k : goal.invariant-loop-k
invariant-loop-k l = l.text.items ≡ flat_map (kern_line l.layout l.font) (range_with_len 0 l.k)
