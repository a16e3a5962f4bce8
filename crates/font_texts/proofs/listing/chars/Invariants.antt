-- the text consists of the lines of the characters so far
use Rattle.std.proofs.Common.{◌≡◌, filter, flat_map}
use Rattle.std.specs.List.{range_with_len}
use Rattle.tfm_tables.specs.Character.{exists}
use Rattle.font_texts.specs.Listing.{char_line}
use Rattle.font_texts.proofs.listing.chars.Given as goal

abbrev pub invariant-loop-code : goal.invariant-loop-code
invariant-loop-code l = l.text.items ≡ flat_map (char_line l.layout l.font) (filter (exists l.font.words) (range_with_len 0 l.code))
