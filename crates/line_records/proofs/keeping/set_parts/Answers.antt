use Rattle.std.proofs.Common.{rules, ◌≡◌, arith, ap, refl, ◌∙◌, w64}
use mir.Val.{bool_byte}
use Rattle.std.proofs.lemmas.Int.{to_z-of_z}
use Rattle.std.proofs.lemmas.List.{map-id}
use Rattle.std.specs.List.{count_by}
use Rattle.std.specs.Option.{option_map_or}
use Rattle.encodings.specs.Visited.{value_of}
use Rattle.set_line.specs.Onward.{setting}
use Rattle.set_line.specs.Width.{total_width}
use Rattle.line_records.specs.Boxes.{is_glue, is_skipped}
use Rattle.line_records.specs.Kept.{gaps_in, set_after, spaces_for}
use Rattle.line_records.proofs.KeptLemmas.{all_set, gaps_counted, joined_length, nothing_after, part_goes_on, part_stops_line}
use Rattle.line_records.proofs.keeping.set_parts.Goals as goal

pub returns-in_default : goal.returns-in_default
returns-in_default c =
    let so_far = c.loop-part.invariant.reached in
    let part = value_of c.in-Some.part in
    so_far.1
    ∙ part_stops_line c.args.terms.now (setting c.loop-part.steps so_far.0) part c.next.new.self c.loop-part.part-iterator (c.in-Some.ensures).steps
    (rw c.in_default.is at c.in_ok-after.ensures.reached so_far.0 c.loop-part.gaps so_far.2)

pub loop-part-preserved : goal.loop-part-preserved
loop-part-preserved c =
    let so_far = c.loop-part.invariant.reached in
    let part = value_of c.in-Some.part in
    let cut = (c.in-Some.ensures).steps in
    let within = rw c.in-Some-2.is at c.in_ok-after.ensures.within in
    let set = rw c.in-Some-2.is at c.in_ok-after.ensures.reached so_far.0 c.loop-part.gaps so_far.2 in
    let one : c.from-gaps.result ≡ gaps_in part = c.from-gaps.ensures ∙ ap bool_byte c.is_some.ensures ∙ gaps_counted c.uncoded.result ∙ ap (λ o. option_map_or (λ character. 1) o 0) c.uncoded.ensures in
    let long = joined_length part c.next.new.self c.loop-part.part-iterator cut in
    record {
      can_next = tt;
      is_finite = tt;
      within = within.0;
      most = within.1;
      few = omega (arith, rw c.in-Some-2.is at c.in_ok-after.ensures.few, c.loop-part.invariant.few, long);
      gaps = omega (arith, c.loop-part.invariant.gaps, long, one);
      reached = (
        set.0,
        so_far.1 ∙ part_goes_on c.args.terms.now (setting c.loop-part.steps so_far.0) (setting c.in-Some-2.after set.0) part c.next.new.self c.loop-part.part-iterator
            cut set.1,
        rw one set.2,
      );
    }

pub returns : goal.returns
returns c =
    let so_far = c.loop-part.invariant.reached in
    let terms = c.args.terms.now in (
      setting c.loop-part.steps so_far.0,
      so_far.1 ∙ ap (set_after terms (setting c.loop-part.steps so_far.0)) (c.in-None.ensures).steps.0
          ∙ nothing_after terms (setting c.loop-part.steps so_far.0),
      all_set c.args.format so_far.0 c.loop-part.lists.items.items c.loop-part.gaps c.loop-part.steps c.loop-part.lists.texts.items _ so_far.2
          (to_z-of_z w64 c.total_width.result (search rules) ∙ c.total_width.ensures ∙ ap total_width (map-id c.deref.result.now ∙ c.deref.ensures.value)) refl
          (omega (arith, c.len.ensures, c.loop-part.lists.items.ok.0)) (omega (arith, c.count_skipped.ensures.value, ap (count_by is_skipped) c.deref-2.ensures.value)) (c.count_spaces.ensures ∙ ap (λ items. spaces_for c.args.format (count_by is_glue items)) c.deref-3.ensures.value)
          (omega (arith, c.len-2.ensures, c.loop-part.lists.texts.ok.0)),
    )
