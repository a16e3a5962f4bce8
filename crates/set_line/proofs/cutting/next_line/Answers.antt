use Rattle.std.proofs.Common.{arith, ap, ◌∙◌, ◌∷◌, ◌<◌, length}
use Rattle.std.proofs.lemmas.Bool.Decides.{nat_tests}
use Rattle.std.proofs.lemmas.Grind.{common_steps}
use Rattle.set_line.proofs.ReturnLemmas.{lines_at_feed, last_line, no_lines}
use Rattle.set_line.proofs.cutting.next_line.Goals as goal

pub returns-then-is_empty-clause-cut : goal.returns-then-is_empty-clause-cut
returns-then-is_empty-clause-cut c = grind (arith, common_steps, no_lines c.args.crlf)

pub returns-in-Some-clause-cut : goal.returns-in-Some-clause-cut
returns-in-Some-clause-cut c = rw (c.in-Some.ensures.1, c.before_ending.ensures) (lines_at_feed c.args.crlf c.in-Some.line.now c.in-Some.rest.now c.in-Some.ensures.0)

pub returns-in-None-clause-cut : goal.returns-in-None-clause-cut
returns-in-None-clause-cut c =
    let some : 0 < length c.args.bytes.now = grind (arith, nat_tests) in
    last_line c.args.crlf c.args.bytes.now c.in-None.ensures some ∙ ap (λ lines. c.args.bytes.now ∷ lines) (grind (arith, common_steps, no_lines c.args.crlf))
