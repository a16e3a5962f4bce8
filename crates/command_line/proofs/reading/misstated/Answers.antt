use Rattle.std.proofs.Common.{ap, false}
use Rattle.std.specs.Prelude.{is_none}
use Rattle.std.specs.Option.{option_map_or}
use Rattle.tex_sizes.specs.Sizes.{size_of}
use Rattle.command_line.proofs.reading.misstated.Goals as goal

pub returns-in-None : goal.returns-in-None
returns-in-None c = ap (λ given. option_map_or (λ text. is_none (size_of text)) given false) c.in-None.ensures
