use Rattle.std.proofs.Common.{rules}
use Rattle.tfm_requests.proofs.WordLemmas.{unread_is_no_limit}
use Rattle.tfm_requests.proofs.batches.jobs.limit_of.Goals as goal

pub returns-in_err-ok : goal.returns-in_err-ok
returns-in_err-ok c =
    unread_is_no_limit c.args.word.now c.parse.result c.from_residual.result (search rules) c.parse.ensures.value.0 (search rules) (search rules)
