use Rattle.std.proofs.Common.{drop, length, arith, ap, sym, ◌∙◌}
use Rattle.encoding_vectors.proofs.TokenLemmas.{no_more}
use Rattle.encoding_vectors.proofs.unknown.after_token.Goals as goal

pub returns-in-None-clause-rest : goal.returns-in-None-clause-rest
returns-in-None-clause-rest c =
    no_more c.args.text.now (length c.args.text.now) (omega arith) ∙ sym (ap (drop 1) c.in-None.ensures.tokens)
