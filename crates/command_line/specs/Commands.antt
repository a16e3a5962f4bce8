-- The command line as tables: the subcommands, and the arguments of each, with ranges, choices and defaults.
-- This project's own. The crate `clap` defines the result of a parse and the order of its errors.
use Rattle.std.specs.Prelude.{◌≡◌, ℕ, List, [], ◌∷◌, ◌++◌, Option, Some, None, true, false, codes, map, pos}
use Rattle.std.specs.Borrow.{Bor}
use Rattle.clap.specs.Lexer.{usize_max}
use Rattle.clap.specs.Words.{App, Rule, Shape, Text, app_of, new_app, new_rule, rule_of, shape_of, with_rule}
use Rattle.clap.specs.declared.builder.arg.Arg.{Arg}
use Rattle.clap.specs.declared.builder.command.Command.{Command}
use Rattle.clap.specs.declared.builder.command.Command.TheViews.{out-Command as fields_of}
use Rattle.clap.specs.declared.builder.action.ArgAction.TheVariants.{SetTrue}
use Rattle.clap.specs.declared.builder.value_parser.ValueParser.{ValueParser}
use Rattle.clap.specs.declared.builder.value_parser.ValueParser.TheVariants as parser
use Rattle.command_line.specs.declared.argument_tables.Kind.{Kind}
use Rattle.command_line.specs.declared.argument_tables.Kind.TheVariants as row_kind
use Rattle.command_line.specs.declared.commands.Subcommand.{Subcommand}
use Rattle.command_line.specs.declared.commands.Subcommand.TheVariants as kind
use Rattle.tex_sizes.specs.Lengths.{unit_name, units as length_units}

-- ---- arguments

-- this argument, required
abbrev pub needed : Rule → Rule
needed rule = record rule { required = true }

-- this argument, with a default value
abbrev pub with_default : Text → Rule → Rule
with_default value rule = record rule { defaults = value ∷ [] }

-- an argument with one or more values
abbrev pub words_rule : Text → Rule
words_rule name = record (new_rule name) { range = Some (record { start_inclusive = 1; end_inclusive = usize_max }) }

-- the option of this name whose value is a number from 1 to most
abbrev pub number_rule : Text → ℕ → Rule
number_rule name most = record (new_rule name) { long = Some name; value_names = 1; parser = Some (parser.Signed (pos 1) (pos most)) }

-- the option of this name whose value is one that the parser accepts
abbrev pub choice_rule : Text → ValueParser → Rule
choice_rule name choices = record (new_rule name) { long = Some name; value_names = 1; parser = Some choices }

-- the option of this name whose value is any text for a parse
abbrev pub text_rule : Text → Rule
text_rule name = record (new_rule name) { long = Some name; value_names = 1 }

-- the option of this name without a value
abbrev pub flag_rule : Text → Rule
flag_rule name = record (new_rule name) { long = Some name; action = Some SetTrue }

-- the option `--verbose`, which has no value; its short form is `-v`
abbrev pub verbose_rule : Rule
verbose_rule = record (flag_rule (codes "verbose")) { short = Some 118 }

-- the parser accepts these values and no other
abbrev pub TakesWords : List Text → ValueParser → Type 0
TakesWords words (parser.Names names) = map (λ (word : Bor Text). word.now) names.now ≡ words
TakesWords words _ = ⊥

-- the argument of this name that takes what the kind states, without a default value
abbrev pub rule_of_kind : Text → Kind → Rule
rule_of_kind name row_kind.One = needed (new_rule name)
rule_of_kind name (row_kind.Many required) = record (words_rule name) { required = required }
rule_of_kind name row_kind.Flag = flag_rule name
rule_of_kind name row_kind.Verbose = record (flag_rule name) { short = Some 118 }
rule_of_kind name (row_kind.Text _ _) = text_rule name
rule_of_kind name (row_kind.Number most) = number_rule name most
rule_of_kind name (row_kind.Word _ words) = choice_rule name (parser.Names words)

-- the argument of a row: its name, its help, its kind, and its default value, if it has one
abbrev pub rule_in : Bor Text × Bor Text × Kind × Option (Bor Text) → Rule
rule_in (name, help, kind, None) = rule_of_kind name.now kind
rule_in (name, help, kind, Some value) = with_default value.now (rule_of_kind name.now kind)

-- ---- options

-- the values of `--missing`
abbrev pub missing_words : List Text
missing_words = codes "refuse" ∷ codes "skip" ∷ []

-- the values of `--record`
abbrev pub record_words : List Text
record_words = codes "1" ∷ codes "2" ∷ codes "json" ∷ codes "box" ∷ []

-- the values of `--format`
abbrev pub format_words : List Text
format_words = codes "text" ∷ codes "csv" ∷ codes "json" ∷ []

-- the values of `--unit`
abbrev pub unit_words : List Text
unit_words = map unit_name length_units

-- the values of `--format` of `list` and `check`
abbrev pub json_format_words : List Text
json_format_words = codes "text" ∷ codes "json" ∷ []

-- the parsers of `--missing`, `--record` and `--unit`
pub record Choices : Type 0 where
  pub missing : ValueParser
  pub records : ValueParser
  pub units : ValueParser
  pub missing_taken : TakesWords missing_words missing
  pub records_taken : TakesWords record_words records
  pub units_taken : TakesWords unit_words units

-- the parsers of `--unit` and `--format` of `list`
pub record ListChoices : Type 0 where
  pub units : ValueParser
  pub formats : ValueParser
  pub units_taken : TakesWords unit_words units
  pub formats_taken : TakesWords json_format_words formats

-- the parsers of `--unit` and `--format` of `pairs`
pub record PairsChoices : Type 0 where
  pub units : ValueParser
  pub formats : ValueParser
  pub units_taken : TakesWords unit_words units
  pub formats_taken : TakesWords format_words formats

-- the parser of `--format` of `check`
pub record CheckChoices : Type 0 where
  pub formats : ValueParser
  pub formats_taken : TakesWords json_format_words formats

-- the option `--size`
abbrev pub size_rule : Rule
size_rule = text_rule (codes "size")

-- the option `--unit` with this parser
abbrev pub unit_rule : ValueParser → Rule
unit_rule units = with_default (codes "sp") (choice_rule (codes "unit") units)

-- the option `--encoding`
abbrev pub encoding_rule : Rule
encoding_rule = with_default (codes "bytes") (text_rule (codes "encoding"))

-- the option `--block`
abbrev pub block_rule : Rule
block_rule = number_rule (codes "block") 8

-- the options of `set`, `stream` and `each` before `--block`, except `--size`
abbrev pub rules_before : ValueParser → List Rule
rules_before missing =
    with_default (codes "refuse") (choice_rule (codes "missing") missing)
    ∷ flag_rule (codes "crlf")
    ∷ encoding_rule
    ∷ with_default (codes "2") (number_rule (codes "workers") 16)
    ∷ with_default (codes "16") (number_rule (codes "capacity") 65536)
    ∷ []

-- the options of `set`, `stream` and `each` after `--block`
abbrev pub rules_after : ValueParser → ValueParser → List Rule
rules_after records units =
    with_default (codes "1") (choice_rule (codes "record") records)
    ∷ choice_rule (codes "unit") units
    ∷ verbose_rule
    ∷ []

-- the options of `set`, `stream` and `each`, except `--size`, with this one for `--block`
abbrev pub run_rules : Rule → Choices → List Rule
run_rules block choices = rules_before choices.missing ++ block ∷ rules_after choices.records choices.units

-- the options of `set` and `stream`, with this one for `--block`, and the argument FONT
abbrev pub setting_rules : Rule → Choices → List Rule
setting_rules block choices =
    size_rule ∷ with_default (codes "1048576") (number_rule (codes "limit") 16777216) ∷ run_rules block choices ++ needed (new_rule (codes "FONT")) ∷ []

-- ---- the subcommands

-- the subcommand of this name with these arguments
abbrev pub subcommand_with : Text → List Rule → Shape
subcommand_with name rules = record (new_app name).top { rules = rules }

-- `counts` takes the flag `--verbose` and one font
abbrev pub counts_shape : Shape
counts_shape = subcommand_with (codes "counts") (verbose_rule ∷ needed (new_rule (codes "FONT")) ∷ [])

-- `list` takes `--size`, `--unit` and `--format` with these parsers, the flags `--all` and `--verbose`, and one font
abbrev pub list_shape : ListChoices → Shape
list_shape choices =
    subcommand_with (codes "list")
    (size_rule ∷ unit_rule choices.units ∷ with_default (codes "text") (choice_rule (codes "format") choices.formats)
    ∷ flag_rule (codes "all") ∷ verbose_rule ∷ needed (new_rule (codes "FONT")) ∷ [])

-- `pairs` takes `--size`, `--unit` and `--format` with these parsers, `--encoding`, the flag `--verbose`, and
-- one font
abbrev pub pairs_shape : PairsChoices → Shape
pairs_shape choices =
    subcommand_with (codes "pairs")
    (size_rule ∷ unit_rule choices.units ∷ with_default (codes "text") (choice_rule (codes "format") choices.formats)
    ∷ encoding_rule ∷ verbose_rule ∷ needed (new_rule (codes "FONT")) ∷ [])

-- `check` takes `--size`, the flags `--strict`, `--quiet` and `--summary`, `--format` with this parser, `--files-from`, the flags
-- `--null` and `--verbose`, and any number of fonts
abbrev pub check_shape : CheckChoices → Shape
check_shape choices =
    subcommand_with (codes "check")
    (size_rule ∷ flag_rule (codes "strict") ∷ flag_rule (codes "quiet") ∷ flag_rule (codes "summary")
    ∷ with_default (codes "text") (choice_rule (codes "format") choices.formats) ∷ text_rule (codes "files-from")
    ∷ flag_rule (codes "null") ∷ verbose_rule ∷ words_rule (codes "FONT") ∷ [])

-- `set` takes its options, a font, and one or more files; a block has one line by default
abbrev pub set_shape : Choices → Shape
set_shape choices = subcommand_with (codes "set") (setting_rules (with_default (codes "1") block_rule) choices ++ needed (words_rule (codes "FILE")) ∷ [])

-- `stream` takes its options, a font, and any number of files; `--block` has no default
abbrev pub stream_shape : Choices → Shape
stream_shape choices = subcommand_with (codes "stream") (setting_rules block_rule choices ++ words_rule (codes "FILE") ∷ [])

-- `each` takes its options, and one or more other arguments; a block has one line by default
abbrev pub each_shape : Choices → Shape
each_shape choices = subcommand_with (codes "each") (size_rule ∷ run_rules (with_default (codes "1") block_rule) choices ++ needed (words_rule (codes "WORD")) ∷ [])

-- ---- the command

-- the command before it has subcommands: its name isn't among the arguments, it has a version, it prints its
-- help if there are no arguments, and it requires a subcommand
abbrev pub bare_app : App
bare_app = record {
  top = record (new_app (codes "tfmset")).top {
    no_binary_name = true;
    has_version = true;
    arg_required_else_help = true;
    subcommand_required = true;
  };
  subs = [];
}

-- the command with these subcommands
abbrev pub command_with : List Shape → App
command_with shapes = record { top = record bare_app.top { is_leaf = false }; subs = shapes }

-- the parsers of `list`, `pairs`, `check`, `set`, `stream` and `each`
pub record AllChoices : Type 0 where
  pub list : ListChoices
  pub pairs : PairsChoices
  pub check : CheckChoices
  pub set : Choices
  pub stream : Choices
  pub each : Choices

-- the whole command, with its seven subcommands
abbrev pub tfmset_app : AllChoices → App
tfmset_app choices =
    command_with
    (counts_shape ∷ list_shape choices.list ∷ pairs_shape choices.pairs ∷ check_shape choices.check ∷ set_shape choices.set
    ∷ stream_shape choices.stream ∷ each_shape choices.each ∷ [])

-- ---- building the command

-- the command with these arguments added, in order
abbrev pub with_rules : App → List Rule → App
with_rules app [] = app
with_rules app (rule ∷ rules) = with_rules (with_rule app rule) rules

-- the built command has this table, and no argument that its subcommands share
abbrev pub IsCommandOf : App → Command → Type 0
IsCommandOf app command = (app_of command ≡ app) × ((fields_of command).has_globals ≡ false)

-- the built subcommand has this table, and no argument that subcommands share
abbrev pub IsSubcommand : Shape → Command → Type 0
IsSubcommand shape command = (shape_of command ≡ shape) × ((fields_of command).has_globals ≡ false)

-- the built argument has this rule, and isn't shared by subcommands
abbrev pub IsArgument : Rule → Arg → Type 0
IsArgument rule argument = (rule_of argument ≡ rule) × (argument.global ≡ false)

-- the name of a subcommand
abbrev pub subcommand_name : Subcommand → Text
subcommand_name kind.Counts = codes "counts"
subcommand_name kind.List = codes "list"
subcommand_name kind.Pairs = codes "pairs"
subcommand_name kind.Check = codes "check"
subcommand_name kind.Set = codes "set"
subcommand_name kind.Stream = codes "stream"
subcommand_name kind.Each = codes "each"

-- the built command is this subcommand, with parsers of its own
abbrev pub IsBuilt : Subcommand → Command → Type 0
IsBuilt kind.Counts made = IsSubcommand counts_shape made
IsBuilt kind.List made = (choices : ListChoices) × IsSubcommand (list_shape choices) made
IsBuilt kind.Pairs made = (choices : PairsChoices) × IsSubcommand (pairs_shape choices) made
IsBuilt kind.Check made = (choices : CheckChoices) × IsSubcommand (check_shape choices) made
IsBuilt kind.Set made = (choices : Choices) × IsSubcommand (set_shape choices) made
IsBuilt kind.Stream made = (choices : Choices) × IsSubcommand (stream_shape choices) made
IsBuilt kind.Each made = (choices : Choices) × IsSubcommand (each_shape choices) made
