-- The warning for a size of less than one point that was given without a unit.
-- This project's own.
use Rattle.std.specs.Prelude.{ℕ, Bool, List, ◌++◌, cond, Option, Some, None, codes, decimal, nat_lt, option_and_then}
use Rattle.command_line.specs.declared.request.Request.{Request}
use Rattle.command_line.specs.declared.request.Request.TheVariants.{List as ListFont, Pairs, Set, Stream, Each}

-- this number of sp, if it is below 65,536, which is one point
abbrev pub below_one_point : ℕ → Option ℕ
below_one_point size = cond (nat_lt size 65536) (Some size) None

-- this size, if there is one, it was given without a unit, and it is below one point
abbrev pub small_size : Option ℕ → Bool → Option ℕ
small_size size is_plain = cond is_plain (option_and_then below_one_point size) None

-- the size of which a request warns, if it has one: that of `pairs` or `stream`, or with `--verbose` that of `list`,
-- `set` or `each`
abbrev pub warned_size : Request → Option ℕ
warned_size (ListFont asked) = cond asked.verbose (small_size asked.size asked.plain_size) None
warned_size (Pairs asked) = small_size asked.size asked.plain_size
warned_size (Set setting) = cond setting.layout.verbose (small_size setting.layout.size setting.layout.plain_size) None
warned_size (Stream setting) = small_size setting.layout.size setting.layout.plain_size
warned_size (Each jobs) = cond jobs.layout.verbose (small_size jobs.layout.size jobs.layout.plain_size) None
warned_size _ = None

-- the line of the warning
abbrev pub warning_text : ℕ → List ℕ
warning_text size =
    codes "tfmset: size "
    ++ (decimal size ++ (codes " is " ++ (decimal size ++ (codes " scaled points; for points write " ++ (decimal size ++ codes "pt\n")))))
