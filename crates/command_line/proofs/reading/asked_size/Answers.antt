use Rattle.std.proofs.Common.{ap, sym}
use Rattle.std.specs.Prelude.{option_map}
use Rattle.tex_sizes.specs.Sizes.{size_of}
use Rattle.command_line.proofs.reading.asked_size.Goals as goal

pub returns-in-None : goal.returns-in-None
returns-in-None c = ap (option_map size_of) (sym c.in-None.ensures)
