-- the first setters were taken back, and the others can be
use Rattle.std.specs.Prelude.{◌≡◌, ◌≤◌, ◌+◌, ◌-◌, length, vec_capacity}
use Rattle.batch.specs.Workers.{CanTake, HaveMore}
use Rattle.batch.proofs.threads.worker.take_back_all.Given as goal

abbrev pub invariant-loop-lane : goal.invariant-loop-lane
invariant-loop-lane g l = record {
  taken : HaveMore l.first l.setters.items l.workers.items l.initial.workers.items;
  count : l.first + length l.setters.items ≡ l.lane;
  rest : CanTake l.lane (l.first + l.lanes - l.lane) l.workers.items;
  room : l.lanes ≤ vec_capacity l.setters;
}
