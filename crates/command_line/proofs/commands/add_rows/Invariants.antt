-- the command has the arguments so far
use Rattle.std.proofs.Common.{map, take}
use Rattle.clap.specs.Words.{App}
use Rattle.command_line.specs.Commands.{IsCommandOf, rule_in, with_rules}
use Rattle.command_line.proofs.commands.add_rows.Given as goal

abbrev pub invariant-loop-row : goal.invariant-loop-row
invariant-loop-row l = (app : App) → IsCommandOf app l.initial.command → IsCommandOf (with_rules app (map rule_in (take l.row-index l.rows))) l.command
