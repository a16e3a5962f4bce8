use Rattle.std.proofs.Common.{arith}
use Rattle.lanes.proofs.setter.Setter.is_done.Goals as goal

pub returns-then-has_made_end : goal.returns-then-has_made_end
returns-then-has_made_end g c = grind arith

pub returns-else-has_made_end : goal.returns-else-has_made_end
returns-else-has_made_end g c = grind arith
