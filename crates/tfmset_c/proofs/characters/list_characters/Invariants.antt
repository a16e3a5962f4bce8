use Rattle.std.proofs.Common.{◌≡◌, map}
use Rattle.std.specs.List.{range_with_len}
use Rattle.tfmset_c.specs.Characters.{character_at}
use Rattle.tfmset_c.proofs.characters.list_characters.Given as goal

abbrev pub invariant-loop-code : goal.invariant-loop-code
invariant-loop-code l = l.list.items ≡ map (character_at l.font) (range_with_len 0 l.code)
