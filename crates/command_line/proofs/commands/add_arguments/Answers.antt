use Rattle.std.proofs.Common.{refl}
use Rattle.std.proofs.lemmas.Result.{IfOk-weaker}
use Rattle.clap.specs.declared.builder.value_parser.ValueParser.TheVariants as parser
use Rattle.command_line.specs.declared.commands.Subcommand.TheVariants as kind
use Rattle.command_line.proofs.CommandLemmas.{as_subcommand, built_as}
use Rattle.command_line.proofs.commands.add_arguments.Goals as goal

pub returns-in-Counts : goal.returns-in-Counts
returns-in-Counts c =
    built_as kind.Counts _ c.add_rows.result _ c.add_rows.new.command c.in-Counts.is (IfOk-weaker c.add_rows.result _ _ (λ _ made is. as_subcommand _ _ (made _ is)) c.add_rows.ensures)

pub returns-in-List : goal.returns-in-List
returns-in-List c =
    built_as kind.List _ c.add_rows-in-List.result _ c.add_rows-in-List.new.command c.in-List.is (IfOk-weaker c.add_rows-in-List.result _ _ (λ _ made is. (
      record { units = parser.Names _; formats = parser.Names _; units_taken = refl; formats_taken = refl },
      as_subcommand _ _ (made _ is),
    )) c.add_rows-in-List.ensures)

pub returns-in-Pairs : goal.returns-in-Pairs
returns-in-Pairs c =
    built_as kind.Pairs _ c.add_rows-in-Pairs.result _ c.add_rows-in-Pairs.new.command c.in-Pairs.is (IfOk-weaker c.add_rows-in-Pairs.result _ _ (λ _ made is. (
      record { units = parser.Names _; formats = parser.Names _; units_taken = refl; formats_taken = refl },
      as_subcommand _ _ (made _ is),
    )) c.add_rows-in-Pairs.ensures)

pub returns-in-Check : goal.returns-in-Check
returns-in-Check c =
    built_as kind.Check _ c.add_rows-in-Check.result _ c.add_rows-in-Check.new.command c.in-Check.is (IfOk-weaker c.add_rows-in-Check.result _ _ (λ _ made is. (
      record { formats = parser.Names _; formats_taken = refl },
      as_subcommand _ _ (made _ is),
    )) c.add_rows-in-Check.ensures)

pub returns-in-Set : goal.returns-in-Set
returns-in-Set c =
    built_as kind.Set _ c.add_rows-in-Set.result _ c.add_rows-in-Set.new.command c.in-Set.is (IfOk-weaker c.add_rows-in-Set.result _ _ (λ _ made is. (
      record { missing = parser.Names _; records = parser.Names _; units = parser.Names _; missing_taken = refl; records_taken = refl; units_taken = refl },
      as_subcommand _ _ (made _ is),
    )) c.add_rows-in-Set.ensures)

pub returns-in-Stream : goal.returns-in-Stream
returns-in-Stream c =
    built_as kind.Stream _ c.add_rows-in-Stream.result _ c.add_rows-in-Stream.new.command c.in-Stream.is (IfOk-weaker c.add_rows-in-Stream.result _ _ (λ _ made is. (
      record { missing = parser.Names _; records = parser.Names _; units = parser.Names _; missing_taken = refl; records_taken = refl; units_taken = refl },
      as_subcommand _ _ (made _ is),
    )) c.add_rows-in-Stream.ensures)

pub returns-in-Each : goal.returns-in-Each
returns-in-Each c =
    built_as kind.Each _ c.add_rows-in-Each.result _ c.add_rows-in-Each.new.command c.in-Each.is (IfOk-weaker c.add_rows-in-Each.result _ _ (λ _ made is. (
      record { missing = parser.Names _; records = parser.Names _; units = parser.Names _; missing_taken = refl; records_taken = refl; units_taken = refl },
      as_subcommand _ _ (made _ is),
    )) c.add_rows-in-Each.ensures)
