use Rattle.command_line.proofs.commands.tfmset_command.Goals as goal

pub returns : goal.returns
returns c = c.in_ok-add_subcommands.ensures c.in_ok-command.ensures
