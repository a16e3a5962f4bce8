use Rattle.std.proofs.Common.{ap}
use Rattle.std.specs.Prelude.{is_none}
use Rattle.command_line.proofs.reading.asked_whole_reads.Goals as goal

pub returns-in-None : goal.returns-in-None
returns-in-None c = ap is_none c.in-None.ensures

pub returns-in-Some : goal.returns-in-Some
returns-in-Some c = ap is_none c.in-Some.ensures
