use Rattle.std.proofs.Common.{map, sym, subst, take}
use Rattle.std.proofs.lemmas.List.{map_more, take_all}
use Rattle.command_line.specs.Commands.{IsCommandOf, rule_in, with_rules}
use Rattle.command_line.proofs.CommandLemmas.{with_more}
use Rattle.command_line.proofs.commands.add_rows.Goals as goal

pub loop-row-preserved : goal.loop-row-preserved
loop-row-preserved c = λ app is.
    let rows = c.args.rows.now in
    let i = c.loop-row.row-index in
    subst (λ rules. IsCommandOf (with_rules app rules) c.add.new.command) (sym (map_more rule_in rows i _ c.loop-row-test.true))
    (with_more app (map rule_in (take i rows)) _ c.add.new.command (c.in_ok-add.ensures _ _ (c.loop-row.invariant app is) c.argument.ensures))

pub returns : goal.returns
returns c = λ app is.
    subst (λ rows. IsCommandOf (with_rules app (map rule_in rows)) c.loop-row.command) (take_all c.loop-row.row-index c.args.rows.now c.loop-row-test.false)
    (c.loop-row.invariant app is)
