use Rattle.std.proofs.Common.{◌∙◌, ap, None}
use Rattle.std.specs.Prelude.{option_and_then}
use Rattle.command_line.specs.Asked.{encoding_stated}
use Rattle.command_line.proofs.ValueLemmas.{finds_same}
use Rattle.command_line.proofs.reading.asked_encoding.Goals as goal

pub returns-in-Some : goal.returns-in-Some
returns-in-Some c = finds_same _ _ (c.encoding_of.ensures ∙ ap (option_and_then encoding_stated) c.in-Some.ensures)

pub returns-in-None : goal.returns-in-None
returns-in-None c = finds_same None _ (ap (option_and_then encoding_stated) c.in-None.ensures)
