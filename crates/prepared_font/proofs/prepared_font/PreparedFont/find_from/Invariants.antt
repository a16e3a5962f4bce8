use Rattle.std.proofs.Common.{◌≡◌, ◌-◌, length}
use Rattle.tfm_tables.specs.Font.{FontValue}
use Rattle.tfm_tables.specs.Program.{address_of, program_of}
use Rattle.prepared_font.specs.Layout.{IsPreparedFrom}
use Rattle.prepared_font.proofs.prepared_font.PreparedFont.find_from.Given as goal

abbrev pub invariant-loop-step : goal.invariant-loop-step
invariant-loop-step l = (font : FontValue) → IsPreparedFrom font l.self → address_of (program_of font.words) l.at l.code ≡ address_of (program_of font.words) l.start l.code

abbrev pub decreases-loop-step : goal.decreases-loop-step
decreases-loop-step l = length l.self - l.at
