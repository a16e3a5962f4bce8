-- the text consists of the text before the loop and the bytes so far, escaped
use Rattle.std.proofs.Common.{◌≡◌, ◌++◌, take}
use Rattle.font_texts.specs.JsonText.{json_string}
use Rattle.font_texts.proofs.appending.push_json_string.Given as goal

abbrev pub invariant-loop-byte : goal.invariant-loop-byte
invariant-loop-byte l = l.text.items ≡ l.initial.text.items ++ json_string (take l.byte-index l.utf8)
