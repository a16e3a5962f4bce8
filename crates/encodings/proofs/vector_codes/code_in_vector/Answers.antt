use Rattle.std.proofs.Common.{ℕ, Option, nat_eq, position, ap, ◌∙◌}
use Rattle.encodings.proofs.VectorLemmas.{as_another}
use Rattle.encodings.proofs.vector_codes.code_in_vector.Goals as goal

pub returns-in_ok-substitute-in-None : goal.returns-in_ok-substitute-in-None
returns-in_ok-substitute-in-None c =
    let of : ℕ → Option ℕ = λ number. position (λ each. nat_eq each number) c.args.characters.now in
    as_another c.args.characters.now c.args.character c.in_ok-substitute-in-None.field-0 c.lowest_code-in-None.result c.requires
    (c.in-None.ensures ∙ ap of c.from.ensures) c.in_ok-substitute-in-None.ensures (c.lowest_code-in-None.ensures ∙ ap of c.from-in-None.ensures)
