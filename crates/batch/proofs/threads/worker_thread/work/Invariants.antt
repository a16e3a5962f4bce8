-- the setters are of the same lanes
use Rattle.std.specs.List.{AllZip}
use Rattle.lanes.specs.Ends.{SameSetter}
use Rattle.batch.proofs.threads.worker_thread.work.Given as goal

abbrev pub invariant-loop : goal.invariant-loop
invariant-loop g l =
    (goal.iterator-loop g).can_next l.iterator' × (goal.iterator-loop g).is_finite l.iterator'
    × AllZip SameSetter l.fn.worker l.worker
