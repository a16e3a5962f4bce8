use Rattle.std.proofs.Common.{◌≡◌, ◌++◌, take, flat_map}
use Rattle.line_records.specs.Boxes.{code_in}
use Rattle.line_records.proofs.keeping.append_codes.Given as goal

abbrev pub invariant-loop-item : goal.invariant-loop-item
invariant-loop-item l = l.codes.items ≡ l.fn.codes.items ++ flat_map code_in (take l.item-index l.items)
