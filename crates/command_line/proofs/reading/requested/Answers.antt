use Rattle.std.proofs.Common.{inr}
use Rattle.std.proofs.lemmas.Result.{IfErr-weaker, IfOk-weaker}
use Rattle.command_line.proofs.reading.requested.Goals as goal

pub returns-clause-asked : goal.returns-clause-asked
returns-clause-asked g c =
    let made = c.in_ok-command.ensures in
    IfOk-weaker c.requested_of.result _ _ (λ request asked. (made.0, asked)) (c.requested_of.ensures.asked made.0 made.1)

pub returns-clause-refused : goal.returns-clause-refused
returns-clause-refused g c =
    let made = c.in_ok-command.ensures in
    IfErr-weaker c.requested_of.result _ _ (λ error refused. inr (made.0, refused)) (c.requested_of.ensures.refused made.0 made.1)
