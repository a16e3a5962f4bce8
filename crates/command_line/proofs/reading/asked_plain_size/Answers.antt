use Rattle.std.proofs.Common.{ap, false}
use Rattle.std.specs.Option.{option_map_or}
use Rattle.tex_sizes.specs.Sizes.{is_plain}
use Rattle.command_line.proofs.reading.asked_plain_size.Goals as goal

pub returns-in-None : goal.returns-in-None
returns-in-None c = ap (λ given. option_map_or is_plain given false) c.in-None.ensures
