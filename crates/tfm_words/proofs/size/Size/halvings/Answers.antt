use Rattle.std.proofs.Common.{arith}
use Rattle.tfm_words.proofs.ScalingLemmas.{still_large}
use Rattle.tfm_words.proofs.size.Size.halvings.Goals as goal

pub returns-in-16777216-to-33554431-clause-least :
    goal.returns-in-16777216-to-33554431-clause-least
returns-in-16777216-to-33554431-clause-least c = λ e few. still_large c.args.self 1 e (omega arith) (omega arith)

pub returns-in-33554432-to-67108863-clause-least :
    goal.returns-in-33554432-to-67108863-clause-least
returns-in-33554432-to-67108863-clause-least c = λ e few. still_large c.args.self 2 e (omega arith) (omega arith)

pub returns-in_default-clause-least : goal.returns-in_default-clause-least
returns-in_default-clause-least c = λ e few. still_large c.args.self 3 e (omega arith) (omega arith)
