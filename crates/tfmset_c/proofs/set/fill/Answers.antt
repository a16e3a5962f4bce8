use Rattle.std.proofs.Common.{arith, refl, ◌∙◌, ◌≡◌, ◌-◌}
use Rattle.tfmset_c.specs.Options.{outcome_within, outcomes_of, steps_of}
use Rattle.tfmset_c.specs.Texts.{items_told, lines_told}
use Rattle.tfmset_c.proofs.FillingLemmas.{all_there, at_first}
use Rattle.tfmset_c.proofs.TextLemmas.{line_more, no_items, no_lines}
use Rattle.tfmset_c.proofs.set.fill.Goals as goal

pub loop-bytes-init : goal.loop-bytes-init
loop-bytes-init c = record { same = (refl, refl); under_way = at_first _ (λ n. lines_told n (outcomes_of c.args.text)) (λ _. items_told (outcomes_of c.args.text)) _ _ }

pub loop-bytes-preserved : goal.loop-bytes-preserved
loop-bytes-preserved c =
    let now = c.loop-bytes in
    let of = c.in_ok-result.ensures.result in
    let fewer : c.saturating_sub-left.result ≡ now.left - steps_of (outcome_within c.args.text.terms.now now.left c.in-Some.bytes.now) = omega (arith, c.saturating_sub-left.ensures, c.from.ensures, c.steps_of.ensures.bytes _ of) in
    record {
      same = (c.in_ok-result.ensures.kept.1 ∙ now.invariant.same.0, c.in_ok-result.ensures.kept.0 ∙ now.invariant.same.1);
      under_way = line_more c.args.text.terms.now now.left c.saturating_sub-left.result c.in-Some.bytes.now _ c.in-Some.ensures.cut fewer (c.line_for_c-line.ensures _ of)
          (rw now.invariant.same.0 at c.in_ok-result.ensures.items) c.put_list.ensures (omega (arith, c.saturating_add.ensures)) (rw c.deref.ensures.value at c.put_items-placed.ensures)
          now.invariant.under_way;
    }

pub returns : goal.returns
returns c = all_there (λ n. no_lines c.args.text.terms.now _ n _ c.in_default.ensures.cut) (no_items c.args.text.terms.now _ _ c.in_default.ensures.cut) c.loop-bytes.invariant.under_way
