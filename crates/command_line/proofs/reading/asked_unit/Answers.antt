use Rattle.std.proofs.Common.{◌∙◌, ap, None}
use Rattle.std.specs.Prelude.{option_and_then}
use Rattle.tex_sizes.specs.Lengths.{unit_named}
use Rattle.command_line.proofs.ValueLemmas.{finds_same}
use Rattle.command_line.proofs.reading.asked_unit.Goals as goal

pub returns-in-Some : goal.returns-in-Some
returns-in-Some c = finds_same _ _ (c.from_name.ensures ∙ ap (option_and_then unit_named) c.in-Some.ensures)

pub returns-in-None : goal.returns-in-None
returns-in-None c = finds_same None _ (ap (option_and_then unit_named) c.in-None.ensures)
