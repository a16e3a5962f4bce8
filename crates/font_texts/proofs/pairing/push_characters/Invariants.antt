-- the symbols are those before the loop and the characters so far
use Rattle.std.proofs.Common.{◌≡◌, ◌++◌, map, filter}
use Rattle.std.specs.List.{range_with_len}
use Rattle.lig_kern.specs.declared.symbol.Symbol.TheVariants.{Char}
use Rattle.tfm_tables.specs.Character.{exists}
use Rattle.font_texts.proofs.pairing.push_characters.Given as goal

abbrev pub invariant-loop-code : goal.invariant-loop-code
invariant-loop-code l =
    l.symbols.items ≡ l.initial.symbols.items ++ map Char (filter (exists l.font.words) (range_with_len 0 l.code))
