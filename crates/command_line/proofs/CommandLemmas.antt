-- How the command is built from its arguments.
use Rattle.std.proofs.Common.{◌≡◌, List, [], ◌∷◌, ◌++◌, ap, subst, sym}
use Rattle.std.specs.Prelude.{Result, IfOk}
use Rattle.clap.specs.Words.{App, Rule, new_app, with_rule}
use Rattle.clap.specs.declared.builder.command.Command.{Command}
use Rattle.command_line.specs.Commands.{IsBuilt, IsCommandOf, IsSubcommand, subcommand_name, with_rules}
use Rattle.command_line.specs.declared.commands.Subcommand.{Subcommand}

-- a command without subcommands, as a subcommand
pub as_subcommand : (app : App) (command : Command) → IsCommandOf app command → IsSubcommand app.top command
as_subcommand app command is = (ap (λ (a : App). a.top) is.0, is.1)

-- one argument more
pub with_more : (app : App) (rules : List Rule) (rule : Rule) (command : Command) → IsCommandOf (with_rule (with_rules app rules) rule) command
    → IsCommandOf (with_rules app (rules ++ rule ∷ [])) command
with_more app [] rule command is = is
with_more app (first ∷ rules) rule command is = with_more (with_rule app first) rules rule command is

-- the subcommand of this kind
pub built_as : {A E : Type 0} (kind given : Subcommand) (r : Result A E) (before after : Command) → given ≡ kind
    → IfOk r (λ _. IsCommandOf (new_app (subcommand_name kind)) before → IsBuilt kind after)
    → IfOk r (λ _. IsCommandOf (new_app (subcommand_name given)) before → IsBuilt given after)
built_as kind given r before after same = subst (λ k. IfOk r (λ _. IsCommandOf (new_app (subcommand_name k)) before → IsBuilt k after)) (sym same)
