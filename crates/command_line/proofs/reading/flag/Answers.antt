use Rattle.clap.specs.Words.{found_of}
use Rattle.command_line.proofs.ValueLemmas.{flag_found}
use Rattle.command_line.proofs.reading.flag.Goals as goal

pub returns : goal.returns
returns c = flag_found (found_of c.args.matches.now) c.args.name.now c.get_flag.result c.get_flag.ensures.none c.get_flag.ensures.value c.get_flag.ensures.other
