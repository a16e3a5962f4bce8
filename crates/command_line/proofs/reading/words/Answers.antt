use Rattle.clap.specs.Words.{found_of}
use Rattle.command_line.proofs.ValueLemmas.{words_told}
use Rattle.command_line.proofs.reading.words.Goals as goal

pub returns : goal.returns
returns c = words_told (found_of c.args.matches.now) c.args.name.now c.get_strs.result c.get_strs.ensures
