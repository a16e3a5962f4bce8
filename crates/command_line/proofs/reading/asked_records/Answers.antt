use Rattle.std.proofs.Common.{◌∙◌, ap, codes, None}
use Rattle.std.specs.Prelude.{option_and_then}
use Rattle.clap.specs.Words.{first_of, found_of, rows_of}
use Rattle.command_line.specs.Asked.{format_stated}
use Rattle.command_line.proofs.ValueLemmas.{finds_same}
use Rattle.command_line.proofs.reading.asked_records.Goals as goal

pub returns-in-Some : goal.returns-in-Some
returns-in-Some c =
    let unit = first_of (codes "unit") (rows_of (found_of c.args.matches.now)) in
    finds_same _ _ (c.format_of.ensures ∙ ap (λ given. format_stated given c.in-Some.value.now) c.value_of-unit.ensures ∙ ap (option_and_then (format_stated unit)) c.in-Some.ensures)

pub returns-in-None : goal.returns-in-None
returns-in-None c =
    let unit = first_of (codes "unit") (rows_of (found_of c.args.matches.now)) in
    finds_same None _ (ap (option_and_then (format_stated unit)) c.in-None.ensures)
