use Rattle.std.proofs.Common.{◌≡◌, ◌+◌, false, Some, drop, arith, length-drop, sym, ◌∙◌}
use Rattle.std.proofs.lemmas.List.{take_rest}
use Rattle.std.proofs.lemmas.Result.{IfOk-weaker}
use Rattle.lig_kern.specs.Places.{codes_ahead, has_end}
use Rattle.lig_kern.specs.Walking.{symbols_ahead}
use Rattle.lig_kern.proofs.Runs.{nothing_ahead, nothing_set, run_ends}
use Rattle.lig_kern.proofs.UnderWay.{ends_at}
use Rattle.lig_kern.proofs.setting.run_steps.Goals as goal

pub returns-in_default-clause-ended : goal.returns-in_default-clause-ended
returns-in_default-clause-ended g c = λ value is.
    let nothing = c.in_default.ensures.same (has_end value c.args.ends.right) in
    nothing_set g.O.RunItem.made value c.args.codes.now c.args.ends c.args.steps_left c.args.out.now.items nothing.0 nothing.1 nothing.2

pub returns-then-not-stands-clause-ended : goal.returns-then-not-stands-clause-ended
returns-then-not-stands-clause-ended g c = λ value is.
    let right = has_end value c.args.ends.right in
    let last : c.right_stands-stands.result ≡ false = grind arith in
    let run = c.in-Some.beginning in
    let symbols = codes_ahead run.codes.now run.at run.hyphen right in
    let rest = drop c.in_ok-reached.reached.steps run.codes.now in
    let ahead = codes_ahead rest (run.at + c.in_ok-reached.reached.steps) run.hyphen right in
    run_ends g.O.RunItem.made value c.args.codes.now c.args.ends run.first symbols c.args.steps_left c.args.out.now.items c.push_symbol.new.out.items
    (Some c.in_ok-reached.reached.steps) (c.in-Some.ensures.same right)
    (ends_at g.O.RunItem.made value run.first symbols c.in_ok-reached.reached.steps c.args.steps_left c.in_ok-reached.reached.current ahead
    c.args.out.now.items c.walk_plainly.new.out.items c.push_symbol.new.out.items (c.in_ok-reached.ensures.moved value is right)
    (nothing_ahead rest _ run.hyphen right (omega (arith, length-drop c.in_ok-reached.reached.steps run.codes.now)) (grind arith)
    (sym (c.right_stands-stands.ensures value is) ∙ last))
    c.in_ok-reached.ensures.within.0 (c.in_ok-push_symbol.ensures.sent value is))

pub returns-clause-ended : goal.returns-clause-ended
unfolding symbols_ahead
returns-clause-ended g c = λ value is.
    let right = has_end value c.args.ends.right in
    let run = c.in-Some.beginning in
    let symbols = codes_ahead run.codes.now run.at run.hyphen right in
    IfOk-weaker c.walk.result _ _
    (λ steps ended. run_ends g.O.RunItem.made value c.args.codes.now c.args.ends run.first symbols c.args.steps_left c.args.out.now.items c.walk.new.out.items
    steps (c.in-Some.ensures.same right)
    (ended run.first symbols c.args.out.now.items
    (rw c.new-ahead.ensures (rw (c.right_stands-stands.ensures value is) (rw (take_rest run.codes.now c.in_ok-reached.reached.steps)
    (c.in_ok-reached.ensures.moved value is right))))))
    (c.walk.ensures.ended value is)
