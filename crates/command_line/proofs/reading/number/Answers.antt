use Rattle.clap.specs.Words.{found_of}
use Rattle.command_line.proofs.ValueLemmas.{number_found}
use Rattle.command_line.proofs.reading.number.Goals as goal

pub returns : goal.returns
returns c = number_found (found_of c.args.matches.now) c.args.name.now c.get_one.result c.get_one.ensures.none c.get_one.ensures.value
