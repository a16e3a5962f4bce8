-- the text consists of the lines of the extensible recipes so far
use Rattle.std.proofs.Common.{◌≡◌, flat_map}
use Rattle.std.specs.List.{range_with_len}
use Rattle.font_texts.specs.AllListing.{recipe_line}
use Rattle.font_texts.proofs.all_listing.recipe_lines.Given as goal

abbrev pub invariant-loop-i : goal.invariant-loop-i
invariant-loop-i l = l.text.items ≡ flat_map (recipe_line l.format l.fn.font) (range_with_len 0 l.i)
