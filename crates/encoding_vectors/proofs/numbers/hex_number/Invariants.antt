use Rattle.std.proofs.Common.{◌≡◌, ◌+◌, ◌^◌, ◌≤◌, true, take}
use Rattle.std.specs.List.{list_all}
use Rattle.std.specs.Str.Parse.{digits_value}
use Rattle.encoding_vectors.specs.Names.{is_upper_hex}
use Rattle.encoding_vectors.proofs.numbers.hex_number.Given as goal

abbrev pub invariant-loop-digit : goal.invariant-loop-digit
invariant-loop-digit l =
    (l.number + 1 ≤ 16 ^ l.digit-index)
    × (list_all is_upper_hex (take l.digit-index l.digits) ≡ true)
    × (l.number ≡ digits_value 16 (take l.digit-index l.digits))
