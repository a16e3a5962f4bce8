use Rattle.std.proofs.Common.{arith, ◌≡◌, ◌-◌, ◌∙◌, subst}
use Rattle.std.proofs.lemmas.Grind.{common_steps}
use Rattle.tfmset_c.specs.Arrays.{ArePut}
use Rattle.tfmset_c.specs.Records.{record_within}
use Rattle.tfmset_c.specs.Options.{result_within, steps_in}
use Rattle.tfmset_c.proofs.TextLemmas.{record_more}
use Rattle.tfmset_c.proofs.records.fill_records.Goals as goal

pub loop-bytes-preserved : goal.loop-bytes-preserved
loop-bytes-preserved c =
    let now = c.loop-bytes in
    let fewer : c.saturating_sub-left.result ≡ now.left - steps_in (result_within c.args.text.terms.now c.args.form.encoding now.is_first now.left c.in-Some.bytes.now) = omega (arith, c.saturating_sub-left.ensures, c.from.ensures, c.steps_of.ensures.line _ c.in_ok-result.ensures.result) in
    let same : c.deref.result.now ≡ record_within c.args.text.terms.now c.args.form now.number now.is_first now.left c.in-Some.bytes.now
    = grind (arith, common_steps, c.deref.ensures, c.in_ok-result.ensures.appended, c.clear.ensures) in
    let put = subst (λ made. ArePut made now.at c.put_list-at.result now.records c.put_list-at.new.array) same c.put_list-at.ensures in
    record {
      style = c.in_ok-result.ensures.kept ∙ now.invariant.style;
      partly = record_more c.args.text.terms.now c.args.form now.number now.left _ now.is_first _ _ _ _ _ _ _ _ _ c.in-Some.ensures.cut fewer put now.invariant.partly;
      countable = omega (arith, now.invariant.countable, c.in-Some.ensures.shorter);
    }
