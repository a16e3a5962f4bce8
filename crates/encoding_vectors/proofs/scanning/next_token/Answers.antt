use Rattle.std.proofs.Common.{◌≡◌, ◌<◌, ◌∷◌, length, arith, sym, subst, ◌∙◌}
use Rattle.encoding_vectors.specs.Reading.{token_between, tokens_at}
use Rattle.encoding_vectors.proofs.TokenLemmas.{no_more, token_there}
use Rattle.encoding_vectors.proofs.scanning.next_token.Goals as goal

pub returns-then-start-text-clause-tokens : goal.returns-then-start-text-clause-tokens
returns-then-start-text-clause-tokens c = c.skip_blank-start.ensures.same ∙ no_more c.args.text.now c.skip_blank-start.result (omega arith)

pub returns-clause-tokens : goal.returns-clause-tokens
returns-clause-tokens c =
    let text = c.args.text.now in let start = c.skip_blank-start.result in
    let inside : start < length text = omega (arith, c.skip_blank-start.ensures.within) in
    c.skip_blank-start.ensures.same
    ∙ subst (λ end. tokens_at text start ≡ token_between text start end ∷ tokens_at text end) (sym c.token_end.ensures.end)
    (token_there text start inside (c.skip_blank-start.ensures.found inside))
