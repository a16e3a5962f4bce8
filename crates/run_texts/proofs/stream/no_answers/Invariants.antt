-- this many lanes without answers
use Rattle.std.proofs.Common.{◌≡◌, [], length}
use Rattle.run_texts.specs.StreamState.{AreCounts}
use Rattle.run_texts.proofs.stream.no_answers.Given as goal

abbrev pub invariant-loop : goal.invariant-loop
invariant-loop l = (length l.counts.items ≡ l.counter) × AreCounts [] 0 l.counts.items
