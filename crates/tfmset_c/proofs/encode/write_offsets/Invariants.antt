use Rattle.std.proofs.Common.{◌≡◌, length, take}
use Rattle.tfmset_c.specs.Encoded.{offsets_from}
use Rattle.tfmset_c.proofs.encode.write_offsets.Given as goal

abbrev pub invariant-loop-index : goal.invariant-loop-index
invariant-loop-index l = record {
  same : length l.offsets ≡ length l.initial.offsets;
  front : take l.index l.offsets ≡ offsets_from l.first l.step l.index;
}
