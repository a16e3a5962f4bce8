use Rattle.std.proofs.Common.{ap, rules, sym, ◌∙◌}
use Rattle.command_line.specs.Asked.{texts}
use Rattle.command_line.proofs.ValueLemmas.{no_files}
use Rattle.command_line.proofs.reading.asked_words.Goals as goal

pub returns-in-None : goal.returns-in-None
returns-in-None c = no_files _ c.words.result c.words.ensures (search rules) ∙ ap texts (sym c.new.ensures.items)
