-- the text consists of the text before the loop and the hexadecimal digits of the bytes so far
use Rattle.std.proofs.Common.{◌≡◌, ◌++◌, take}
use Rattle.font_texts.specs.ListingWords.{hex_text}
use Rattle.font_texts.proofs.appending.push_hex.Given as goal

abbrev pub invariant-loop-byte : goal.invariant-loop-byte
invariant-loop-byte l = l.text.items ≡ l.initial.text.items ++ hex_text (take l.byte-index l.bytes)
