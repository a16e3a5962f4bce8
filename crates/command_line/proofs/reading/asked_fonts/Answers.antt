use Rattle.std.proofs.Common.{None, refl, rules}
use Rattle.clap.specs.Words.{found_of, rows_of}
use Rattle.command_line.specs.Asked.{IsChecking}
use Rattle.command_line.proofs.ValueLemmas.{no_part}
use Rattle.command_line.proofs.reading.asked_fonts.Goals as goal

pub returns-in_default : goal.returns-in_default
returns-in_default c =
    no_part _ (IsChecking (rows_of (found_of c.args.matches.now))) (λ any. any.layout) c.asked_check_layout.result None
    c.asked_check_layout.ensures (search rules) refl (λ any asked. asked.5)
