use Rattle.std.proofs.Common.{ℕ, Option, [], ◌∷◌, length, arith, sym, ◌∙◌, ap}
use Rattle.std.proofs.lemmas.Result.{err_from_is_err_and}
use Rattle.encoding_vectors.proofs.ReadingLemmas.{character_more, name_misfit, name_more}
use Rattle.encoding_vectors.proofs.reading.read_names.Goals as goal

pub returns-in_err-start-clause-fault : goal.returns-in_err-start-clause-fault
returns-in_err-start-clause-fault c =
    let p = err_from_is_err_and c.from_residual.result c.from_residual.ensures.1 in
    rw (p.1, p.2) (name_misfit c.args.text.now c.args.at c.loop-index.index (length c.args.characters.now) c.loop-index.at _ (omega arith) c.loop-index.invariant.0 c.in_err-start.ensures.fault)

pub loop-index-preserved : goal.loop-index-preserved
loop-index-preserved c =
    let text = c.args.text.now in let at = c.args.at in let index = c.loop-index.index in (
      name_more text at index c.loop-index.at c.in_ok-start.end c.loop-index.invariant.0 c.in_ok-start.ensures.read,
      character_more text at index c.loop-index.at c.loop-index.characters c.character_of.result (omega arith) c.loop-index.invariant.0 c.loop-index.invariant.1 (c.in_ok-start.ensures.character ∙ ap (λ (x : Option ℕ). x ∷ []) (sym c.character_of.ensures)),
    )
