-- What a request may print on standard error although it succeeds.
-- This project's own.
use Rattle.std.specs.Prelude.{◌≡◌, ◌||◌, List, Bool, true, is_some}
use Rattle.clap.specs.Words.{Text}
use Rattle.command_line.specs.Asked.{IsAskedBy}
use Rattle.command_line.specs.declared.request.Request.{Request}
use Rattle.command_line.specs.declared.request.Arguments.{Arguments}
use Rattle.command_line.specs.declared.request.Request.TheVariants.{Counts, List as ListFont, Pairs, Check, Set, Stream, Each}
use Rattle.tfm_tool.specs.Warnings.{small_size}

-- whether a request prints notes while it is carried out: `check` and `stream` do, and any other with `--verbose`
abbrev pub is_noted : Request → Bool
is_noted (Counts _ verbose) = verbose
is_noted (ListFont asked) = asked.verbose
is_noted (Pairs asked) = asked.verbose
is_noted (Check _) = true
is_noted (Set setting) = setting.layout.verbose
is_noted (Stream _) = true
is_noted (Each jobs) = jobs.layout.verbose

-- whether a request may print something on standard error although it succeeds: with `--verbose` any may, and
-- without it `check`, `stream`, and `pairs` with a small size
abbrev pub may_report : Request → Bool
may_report (Pairs asked) = asked.verbose || is_some (small_size asked.size asked.plain_size)
may_report other = is_noted other

-- the arguments state such a request
abbrev pub MayReport : List Text → Type 0
MayReport words = (asked : Arguments) × IsAskedBy words asked × (may_report asked.request ≡ true)
