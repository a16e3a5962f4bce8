use Rattle.std.proofs.Common.{arith}
use Rattle.lanes.proofs.setter.Setter.has_given_up.Goals as goal

pub returns-in_default : goal.returns-in_default
returns-in_default g c = grind arith
