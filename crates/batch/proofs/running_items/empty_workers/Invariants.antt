-- this many workers were made
use Rattle.std.specs.Prelude.{◌≡◌, vec_len}
use Rattle.batch.proofs.running_items.empty_workers.Given as goal

abbrev pub invariant-loop-made : goal.invariant-loop-made
invariant-loop-made g l = vec_len l.workers ≡ l.made
