use Rattle.std.proofs.Common.{arith, ◌∙◌}
use Rattle.prepared_font.proofs.WordLemmas.{header_stays, widths_stay, states_stay, steps_stay}
use Rattle.prepared_font.proofs.preparing.put_table.Goals as goal

pub returns : goal.returns
returns c =
    let font = c.args.font.now in
    let room = c.put_kerns.new.room in
    let widths = c.put_widths.ensures in
    let states = c.put_states.ensures in
    let steps = c.put_steps.ensures in
    let kerns = c.put_kerns.ensures in
    record {
      long = omega arith;
      header = header_stays font c.put_header.new.room room
          (λ k below. kerns.before k (omega (arith, below)) ∙ steps.before k (omega (arith, below)) ∙ states.before k (omega (arith, below)) ∙ widths.before k below)
          c.put_header.ensures.header;
      widths = widths_stay font c.put_widths.new.room room
          (λ k below. kerns.before k (omega (arith, below)) ∙ steps.before k (omega (arith, below)) ∙ states.before k below) widths.widths;
      states = states_stay font c.put_states.new.room room
          (λ k below. kerns.before k (omega (arith, below)) ∙ steps.before k below) states.states;
      steps = steps_stay font c.put_steps.new.room room (λ k below. kerns.before k below) steps.steps;
      kerns = kerns.kerns;
      readable = record { right = c.put_header.ensures.right; kerns = steps.kerns };
    }
