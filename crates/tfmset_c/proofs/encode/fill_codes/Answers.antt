use Rattle.std.proofs.Common.{rules, ap, map, ◌∙◌}
use Rattle.tfmset_c.specs.Encoded.{uncoded_told}
use Rattle.tfmset_c.proofs.EncodedLemmas.{coded_next, kept_next, put_next}
use Rattle.tfmset_c.proofs.encode.fill_codes.Goals as goal

pub loop-place-preserved-in-Some-codes_in_text : goal.loop-place-preserved-in-Some-codes_in_text
loop-place-preserved-in-Some-codes_in_text c =
    let now = c.loop-place.invariant in
    let kept = c.take_kept-first.ensures in
    let next = coded_next c.args.encoding c.in-Some.place c.take_kept-first.new.self c.next.new.self c.in-Some-codes_in_text.made.now (search rules) (search rules) in
    record {
      codes = put_next _ _ _ _ _ _ _ _ _ (put_next _ _ _ _ _ _ _ _ _ now.codes kept.codes c.put_list.ensures) next.0 c.put_list-in-Some-codes_in_text.ensures;
      offsets = put_next _ _ _ _ _ _ _ _ _ (kept_next _ _ _ _ _ _ _ _ _ _ now.offsets kept.offsets c.put_offsets-placed.ensures) next.1 c.put_offsets-placed-in-Some-codes_in_text.ensures;
      uncoded = rw (ap (map uncoded_told) (kept.uncoded ∙ next.2)) at now.uncoded;
      sound = now.sound;
    }
