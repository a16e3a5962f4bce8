use Rattle.std.proofs.Common.{◌≡◌, ◌+◌, None, arith, sym, ◌∙◌}
use Rattle.std.specs.List.{slice_get}
use Rattle.tfm_tables.specs.Program.{program_of}
use Rattle.prepared_font.proofs.ChainSteps.{chain_past, chain_hit, chain_on, chain_end, chain_high}
use Rattle.prepared_font.proofs.prepared_font.PreparedFont.find_from.Goals as goal

pub returns : goal.returns
returns c = λ font is.
    let here : slice_get (program_of font.words) c.loop-step.at ≡ None = grind (arith, c.step.ensures.value font is, c.in_default.is) in
    sym (chain_past (program_of font.words) c.loop-step.at c.args.code here) ∙ c.loop-step.invariant font is

pub returns-then-step-gt128 : goal.returns-then-step-gt128
returns-then-step-gt128 c = λ font is.
    sym (chain_high (program_of font.words) c.loop-step.at c.args.code c.in-Some.step (sym (c.in-Some.ensures.value font is)) (omega arith)) ∙ c.loop-step.invariant font is

pub returns-then-step-code : goal.returns-then-step-code
returns-then-step-code c = λ font is.
    sym (chain_hit (program_of font.words) c.loop-step.at c.args.code c.in-Some.step (sym (c.in-Some.ensures.value font is)) (omega arith) (grind arith)) ∙ c.loop-step.invariant font is

pub returns-then-step : goal.returns-then-step
returns-then-step c = λ font is.
    sym (chain_end (program_of font.words) c.loop-step.at c.args.code c.in-Some.step (sym (c.in-Some.ensures.value font is)) (omega arith) (grind arith)) ∙ c.loop-step.invariant font is

pub loop-step-preserved : goal.loop-step-preserved
loop-step-preserved c = λ font is.
    sym (chain_on (program_of font.words) c.loop-step.at c.args.code (c.loop-step.at + (c.from.result + 1)) c.in-Some.step (sym (c.in-Some.ensures.value font is)) (omega arith) (omega arith) (grind arith)) ∙ c.loop-step.invariant font is
