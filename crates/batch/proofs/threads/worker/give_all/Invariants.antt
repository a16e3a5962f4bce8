-- the last setters were given, and the others are left
use Rattle.std.specs.Prelude.{◌≡◌, ◌≤◌, ◌+◌, ◌++◌, List, length, vec_capacity, vec_len}
use Rattle.batch.specs.Workers.{HaveMore}
use Rattle.batch.proofs.threads.worker.give_all.Given as goal

abbrev pub invariant-lanes : goal.invariant-lanes
invariant-lanes g l = record {
  given : (given : List g.row.T.Denot) × (l.setters.items ++ given ≡ l.initial.setters.items)
      × HaveMore (l.first + length l.setters.items) given l.initial.workers.items l.workers.items;
  room : vec_len l.initial.setters ≤ vec_capacity l.setters;
}

abbrev pub decreases-lanes : goal.decreases-lanes
decreases-lanes g l = vec_len l.setters
