use Rattle.std.proofs.Common.{arith}
use Rattle.lig_kern.proofs.Moves.{moved_plain, moved_kern, moved_stays, moved_becomes, moved_passes}
use Rattle.lig_kern.proofs.walking.step.Goals as goal

pub returns-in_ok-push_symbol-in-None-clause-moved : goal.returns-in_ok-push_symbol-in-None-clause-moved
returns-in_ok-push_symbol-in-None-clause-moved g c = λ value is.
    rw c.pass.ensures
    (moved_plain g.O.RunItem.made value c.args.current c.args.next c.args.ahead.now c.args.out.now.items c.push_symbol.new.out.items
    c.requires (grind (arith, c.action.ensures value is)) (c.in_ok-push_symbol-in-None.ensures.sent value is))

pub returns-in_ok-push_with_kern-in-Some-Kern-clause-moved : goal.returns-in_ok-push_with_kern-in-Some-Kern-clause-moved
returns-in_ok-push_with_kern-in-Some-Kern-clause-moved g c = λ value is.
    rw c.pass-in-Some-Kern.ensures
    (moved_kern g.O.RunItem.made value c.args.current c.args.next c.args.ahead.now c.in-Some-Kern.amount c.args.out.now.items c.push_with_kern.new.out.items
    c.requires (grind (arith, c.action.ensures value is)) (grind (arith, c.in_ok-push_with_kern-in-Some-Kern.ensures.sent value is)))

pub returns-then-pass-passed_left-clause-moved : goal.returns-then-pass-passed_left-clause-moved
returns-then-pass-passed_left-clause-moved g c = λ value is.
    moved_stays g.O.RunItem.made value c.args.current c.args.next c.args.ahead.now c.in-Some-Lig.code c.in-Some-Lig.keep_left c.in-Some-Lig.keep_right c.in-Some-Lig.pass c.put.new.self c.args.out.now.items
    c.requires (grind (arith, c.action.ensures value is)) (grind arith) (grind arith)

pub returns-then-pass-passed_left-2-clause-moved : goal.returns-then-pass-passed_left-2-clause-moved
returns-then-pass-passed_left-2-clause-moved g c = λ value is.
    rw c.pass_unless.ensures (rw c.inserted-place.ensures
    (moved_becomes g.O.RunItem.made value c.args.current c.args.next c.args.ahead.now c.in-Some-Lig.code c.in-Some-Lig.keep_left c.in-Some-Lig.keep_right c.in-Some-Lig.pass c.args.out.now.items c.push_kept.new.out.items
    c.requires (grind (arith, c.action.ensures value is)) (grind arith) (c.in_ok-push_kept-in-Some-Lig.ensures.sent value is)))

pub returns-in_ok-push_symbol-in-Some-Lig-clause-moved : goal.returns-in_ok-push_symbol-in-Some-Lig-clause-moved
returns-in_ok-push_symbol-in-Some-Lig-clause-moved g c = λ value is.
    rw c.pass-in-Some-Lig.ensures (rw c.pass_unless.ensures
    (moved_passes g.O.RunItem.made value c.args.current c.args.next c.args.ahead.now c.in-Some-Lig.code c.in-Some-Lig.keep_left c.in-Some-Lig.keep_right c.in-Some-Lig.pass c.args.out.now.items c.push_kept.new.out.items c.push_symbol-in-Some-Lig.new.out.items
    c.requires (grind (arith, c.action.ensures value is)) (grind arith) (c.in_ok-push_kept-in-Some-Lig.ensures.sent value is)
    (rw c.inserted-place.ensures at (c.in_ok-push_symbol-in-Some-Lig.ensures.sent value is))))
