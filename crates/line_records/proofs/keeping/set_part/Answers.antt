use Rattle.std.proofs.Common.{◌+◌, ◌++◌, ◌∙◌, arith, ap, drop, length, sym}
use Rattle.std.specs.List.{flat_map}
use Rattle.lig_kern.specs.declared.item.Item.TheVariants.{Skipped}
use Rattle.line_records.specs.Boxes.{item_text}
use Rattle.set_line.specs.Pieces.{portions_in}
use Rattle.encodings.specs.Visited.{value_of}
use Rattle.line_records.proofs.KeptLemmas.{none_is, not_shorter, part_gap, part_last, part_none, part_refused}
use Rattle.line_records.proofs.keeping.set_part.Goals as goal

pub returns-in_default-clause-reached : goal.returns-in_default-clause-reached
returns-in_default-clause-reached c = λ all gaps listed.
    let terms = c.args.terms.now in
    part_none terms c.args.format c.args.used gaps all c.args.lists.now.items.items c.args.lists.now.texts.items listed (value_of c.args.part) c.is_none-right.result c.uncoded-skipped.result
    c.uncoded-skipped.ensures (none_is _ _ c.is_none-right.ensures) (rw c.in_default.is at c.in_ok-steps.ensures.reached)

pub split_at-requires : goal.split_at-requires
split_at-requires c =
    let kept = rw c.in-Some.is at c.in_ok-steps.ensures.none in
    omega (
      arith,
      not_shorter c.args.terms.now.font c.args.terms.now.limit c.args.used c.in-Some.steps c.args.lists.now.items.items c.set_stretch.new.items.items
          (portions_in c.is_none-right.result c.args.terms.now.font c.args.part.codes.now) ((rw c.in-Some.is at c.in_ok-steps.ensures.reached) kept),
      c.len-from.ensures,
      c.deref.ensures.len,
      c.args.lists.now.items.ok.0,
      c.set_stretch.new.items.ok.0,
    )

pub returns-in-None-default-clause-reached : goal.returns-in-None-default-clause-reached
returns-in-None-default-clause-reached c = λ all gaps listed.
    let kept = rw c.in-Some.is at c.in_ok-steps.ensures.none in
    part_last c.args.terms.now c.args.format c.args.used gaps all c.args.lists.now.items.items c.args.lists.now.texts.items listed (value_of c.args.part) c.is_none-right.result c.uncoded-skipped.result
    c.in-Some.steps c.set_stretch.new.items.items c.append_texts.new.texts.items c.uncoded-skipped.ensures c.in-None-default.is-0 (none_is _ _ c.is_none-right.ensures) kept
    ((rw c.in-Some.is at c.in_ok-steps.ensures.reached) kept) (c.in_ok-append_texts.ensures ∙ ap (λ xs. c.args.lists.now.texts.items ++ flat_map (item_text c.args.format) xs) (c.split_at.ensures.back ∙ ap (λ n. drop n c.deref.result.now) (omega (arith, c.len-from.ensures, c.args.lists.now.items.ok.0)) ∙ ap (drop (length c.args.lists.now.items.items)) c.deref.ensures.value))

pub returns-in-Some-Refuse-clause-reached : goal.returns-in-Some-Refuse-clause-reached
returns-in-Some-Refuse-clause-reached c = λ all gaps listed.
    part_refused c.args.terms.now c.args.format c.args.used gaps all c.args.lists.now.items.items c.args.lists.now.texts.items listed (value_of c.args.part) c.uncoded-skipped.result c.in-Some-Refuse.field-0-0
    c.uncoded-skipped.ensures c.in-Some-Refuse.is-0 (sym c.policy.ensures ∙ c.in-Some-Refuse.is-1)

pub returns-in_ok-append_gap-in-Some-Skip-clause-reached : goal.returns-in_ok-append_gap-in-Some-Skip-clause-reached
returns-in_ok-append_gap-in-Some-Skip-clause-reached c = λ all gaps listed.
    let kept = rw c.in-Some.is at c.in_ok-steps.ensures.none in
    part_gap c.args.terms.now c.args.format c.args.used gaps all c.args.lists.now.items.items c.args.lists.now.texts.items listed (value_of c.args.part) c.is_none-right.result c.uncoded-skipped.result c.in-Some-Skip.character
    c.in-Some.steps c.set_stretch.new.items.items c.append_gap.new.texts.items c.uncoded-skipped.ensures c.in-Some-Skip.is-0 (none_is _ _ c.is_none-right.ensures)
    (sym c.policy.ensures ∙ c.in-Some-Skip.is-1) kept (rw c.in-Some.is at c.in_ok-steps.ensures.within).0
    ((rw c.in-Some.is at c.in_ok-steps.ensures.reached) kept)
    (c.in_ok-append_gap-in-Some-Skip.ensures ∙ ap (λ xs. xs ++ item_text c.args.format (Skipped (256 + c.in-Some-Skip.character))) (c.in_ok-append_texts.ensures ∙ ap (λ xs. c.args.lists.now.texts.items ++ flat_map (item_text c.args.format) xs) (c.split_at.ensures.back ∙ ap (λ n. drop n c.deref.result.now) (omega (arith, c.len-from.ensures, c.args.lists.now.items.ok.0)) ∙ ap (drop (length c.args.lists.now.items.items)) c.deref.ensures.value)))
