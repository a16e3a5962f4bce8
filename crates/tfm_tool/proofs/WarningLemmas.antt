-- A request that reports nothing unless it fails, and what follows for its notes and its size.
use Rattle.std.proofs.Common.{◌≡◌, Bool, true, false, Option, Some, None, refl}
use Rattle.std.specs.Prelude.{◌||◌, cond, is_some}
use Rattle.command_line.specs.declared.request.Request.{Request}
use Rattle.command_line.specs.declared.request.Request.TheVariants.{Counts, List as ListFont, Pairs, Check, Set, Stream, Each}
use Rattle.tfm_tool.specs.Verbose.{is_noted, may_report}
use Rattle.tfm_tool.specs.Warnings.{small_size, warned_size}

pub false_from : (flag : Bool) → (flag ≡ true → ⊥) → flag ≡ false
false_from false not_set = refl
false_from true not_set = absurd (not_set refl)

first_false : (a b : Bool) → (a || b) ≡ false → a ≡ false
first_false false b is = refl
first_false true b is = is

none_small : {A : Type 0} (a : Bool) (size : Option A) → (a || is_some size) ≡ false → size ≡ None
none_small a None is = refl
none_small false (Some size) is = let bad : true ≡ false = is in cc
none_small true (Some size) is = let bad : true ≡ false = is in cc

-- no note is printed while such a request is carried out
pub not_noted : (request : Request) → may_report request ≡ false → is_noted request ≡ false
not_noted (Pairs asked) is = first_false asked.verbose (is_some (small_size asked.size asked.plain_size)) is
not_noted (Counts font verbose) is = is
not_noted (ListFont asked) is = is
not_noted (Check asked) is = is
not_noted (Set setting) is = is
not_noted (Stream setting) is = is
not_noted (Each jobs) is = is

unset : {A : Type 0} (flag : Bool) (value : Option A) → flag ≡ false → cond flag value None ≡ None
unset false value is = refl
unset true value is = let bad : true ≡ false = is in cc

-- and its size isn't warned of
pub not_warned : (request : Request) → may_report request ≡ false → warned_size request ≡ None
not_warned (Pairs asked) is = none_small asked.verbose (small_size asked.size asked.plain_size) is
not_warned (Counts font verbose) is = refl
not_warned (ListFont asked) is = unset asked.verbose (small_size asked.size asked.plain_size) is
not_warned (Check asked) is = refl
not_warned (Set setting) is = unset setting.layout.verbose (small_size setting.layout.size setting.layout.plain_size) is
not_warned (Stream setting) is = let bad : true ≡ false = is in cc
not_warned (Each jobs) is = unset jobs.layout.verbose (small_size jobs.layout.size jobs.layout.plain_size) is
