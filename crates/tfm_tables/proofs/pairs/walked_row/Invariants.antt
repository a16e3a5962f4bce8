use Rattle.std.proofs.Common.{◌≡◌, ℕ, ◌-◌, ◌<◌, length, get_or}
use Rattle.std.specs.Option.{option_or}
use Rattle.tfm_tables.specs.Program.{address_of}
use Rattle.tfm_tables.specs.Pairs.{address_in}
use Rattle.tfm_tables.proofs.pairs.walked_row.Given as goal

abbrev pub invariant-loop-step : goal.invariant-loop-step
invariant-loop-step l = record {
  long : length l.row ≡ 256;
  found : (code : ℕ) → code < 256 → option_or (address_in (get_or l.row code 0)) (address_of l.program l.at code) ≡ address_of l.program l.start code;
}

abbrev pub decreases-loop-step : goal.decreases-loop-step
decreases-loop-step l = length l.program - l.at
