-- each level has one lane fewer
use Rattle.set_run.proofs.running.+reports_of.Given as goal

abbrev pub decreases-reports_of : goal.decreases-reports_of
decreases-reports_of g l = l.lanes.len
