use Rattle.std.proofs.Common.{◌≡◌, true, false, get_or, length, arith, sym, below_more}
use Rattle.spans.specs.Spans.{is_missing}
use Rattle.spans.proofs.RefusalLemmas.{found_first, found_none}
use Rattle.spans.proofs.refusing.first_missing.Goals as goal

pub returns-then-not-exists-clause-first : goal.returns-then-not-exists-clause-first
returns-then-not-exists-clause-first g c = λ value is.
    let here : is_missing value (get_or c.args.codes.now c.loop-at.at 0) ≡ true = grind (arith, c.exists.ensures value is) in
    sym (found_first (is_missing value) c.args.codes.now c.loop-at.at (omega arith) (c.loop-at.invariant value is) here)

pub loop-at-preserved : goal.loop-at-preserved
loop-at-preserved g c = λ value is.
    let here : is_missing value (get_or c.args.codes.now c.loop-at.at 0) ≡ false = grind (arith, c.exists.ensures value is) in
    below_more _ _ (c.loop-at.invariant value is) here

pub returns-clause-first : goal.returns-clause-first
returns-clause-first g c = λ value is.
    let end : c.loop-at.at ≡ length c.args.codes.now = omega arith in
    sym (found_none (is_missing value) c.args.codes.now (λ k below. c.loop-at.invariant value is k (omega arith)))
