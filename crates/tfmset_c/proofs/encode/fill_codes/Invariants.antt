use Rattle.std.proofs.Common.{◌≡◌, length, map}
use Rattle.encodings.specs.Texts.{codes_at, offsets_at, uncoded_at}
use Rattle.tfmset_c.specs.Arrays.{IsPartly}
use Rattle.tfmset_c.specs.Encoded.{uncoded_told}
use Rattle.tfmset_c.proofs.encode.fill_codes.Given as goal

abbrev pub invariant-loop-place : goal.invariant-loop-place
invariant-loop-place l = record {
  codes : IsPartly (codes_at l.encoding l.fn.places) (codes_at l.encoding l.places) l.counts.count l.initial.codes l.codes;
  offsets : IsPartly (offsets_at l.encoding l.fn.places) (offsets_at l.encoding l.places) l.placed l.initial.offsets l.offsets;
  uncoded : IsPartly (map uncoded_told (uncoded_at l.encoding l.fn.places)) (map uncoded_told (uncoded_at l.encoding l.places)) l.counts.uncoded l.initial.uncoded l.uncoded;
  sound : l.counts.offset ≡ 0;
}

abbrev pub decreases-loop-place : goal.decreases-loop-place
decreases-loop-place l = length l.places
