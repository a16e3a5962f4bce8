-- each level has one worker fewer
use Rattle.batch.proofs.threads.spawning.+start_workers.Given as goal

abbrev pub decreases-start_workers : goal.decreases-start_workers
decreases-start_workers g l = l.workers.len
