-- the sources so far, with their makers
use Rattle.std.specs.Prelude.{◌≡◌}
use Rattle.set_run.proofs.running.item_sources.Given as goal

abbrev pub invariant-loop-pair : goal.invariant-loop-pair
invariant-loop-pair g l = l.made.items ≡ l.yielded
