use Rattle.std.proofs.Common.{◌≡◌, ◌+◌, arith, below_more, ◌∙◌}
use Rattle.tfm_tables.specs.Character.{character_width_of}
use Rattle.prepared_font.specs.Layout.{number_at}
use Rattle.prepared_font.proofs.WordLemmas.{same_number}
use Rattle.prepared_font.proofs.preparing.put_widths.Goals as goal

pub loop-code-preserved : goal.loop-code-preserved
loop-code-preserved c =
    let font = c.args.font.now in
    let room = c.put.new.room in
    record {
      long = omega (arith, c.put.ensures.long, c.loop-code.invariant.long);
      done = below_more (λ code. number_at room (9 + code) ≡ character_width_of font.words font.size code) c.loop-code.code
          (λ k below. same_number room c.loop-code.room (9 + k) (c.put.ensures.before (9 + k) (omega (arith, below))) ∙ c.loop-code.invariant.done k below)
          (grind (arith, c.put.ensures.here, c.width.ensures.value));
      before = λ k below. c.put.ensures.before k (omega (arith, below)) ∙ c.loop-code.invariant.before k below;
    }
