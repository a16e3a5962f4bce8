-- each level has one source fewer
use Rattle.batch.proofs.threads.spawning.+start_sources.Given as goal

abbrev pub decreases-start_sources : goal.decreases-start_sources
decreases-start_sources g l = l.sources.len
