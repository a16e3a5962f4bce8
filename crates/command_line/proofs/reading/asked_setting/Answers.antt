use Rattle.std.proofs.Common.{None, refl, rules}
use Rattle.clap.specs.Words.{found_of, rows_of}
use Rattle.command_line.specs.Asked.{IsSetting}
use Rattle.command_line.proofs.ValueLemmas.{no_part}
use Rattle.command_line.proofs.reading.asked_setting.Goals as goal

pub returns-in_default : goal.returns-in_default
returns-in_default c =
    no_part _ (IsSetting (rows_of (found_of c.args.matches.now))) (λ any. (any.font, any.limit, any.layout)) c.font_limit_layout.result None
    c.font_limit_layout.ensures (search rules) refl (λ any asked. (asked.0, asked.1, asked.3))
