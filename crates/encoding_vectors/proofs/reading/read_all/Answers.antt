use Rattle.std.proofs.Common.{replicate, ◌∙◌, ap, subst}
use Rattle.std.proofs.lemmas.Result.{err_from_is_err_and}
use Rattle.encoding_vectors.specs.Reading.{IsMisfit, IsRead, characters_at}
use Rattle.encoding_vectors.specs.Vectors.{is_name as is_name_token}
use Rattle.encoding_vectors.proofs.ReadingLemmas.{all_characters, all_read, bracket_misfit, end_misfit, head_misfit, name_first_misfit, names_misfit}
use Rattle.encoding_vectors.proofs.reading.read_all.Goals as goal

pub returns-in_err-at-clause-fault : goal.returns-in_err-at-clause-fault
returns-in_err-at-clause-fault c =
    let p = err_from_is_err_and c.from_residual.result c.from_residual.ensures.1 in
    rw (p.1, p.2) (name_first_misfit c.args.text.now _ c.in_err-at.ensures.fault)

pub returns-in_err-at-2-clause-fault : goal.returns-in_err-at-2-clause-fault
returns-in_err-at-2-clause-fault c =
    let p = err_from_is_err_and c.from_residual-in_err-at-2.result c.from_residual-in_err-at-2.ensures.1 in
    rw (p.1, p.2) (head_misfit c.args.text.now c.in_ok-at.at c.in_ok-at.ensures.read _ c.in_err-at-2.ensures.fault)

pub returns-in_err-at-3-clause-fault : goal.returns-in_err-at-3-clause-fault
returns-in_err-at-3-clause-fault c =
    let text = c.args.text.now in let offset = c.in_err-at-3.field-0.0 in let start = c.in_ok-at-2.at in
    let p = err_from_is_err_and c.from_residual-in_err-at-3.result c.from_residual-in_err-at-3.ensures.1 in
    let misfit = subst (λ n. IsMisfit (replicate n is_name_token) text start offset) c.requires c.in_err-at-3.ensures.fault in
    rw (p.1, p.2) (names_misfit text c.in_ok-at.at c.in_ok-at.ensures.read start c.in_ok-at-2.ensures.read offset misfit)

pub returns-in_err-at-4-clause-fault : goal.returns-in_err-at-4-clause-fault
returns-in_err-at-4-clause-fault c =
    let text = c.args.text.now in let start = c.in_ok-at-2.at in let end = c.in_ok-at-3.at in
    let p = err_from_is_err_and c.from_residual-in_err-at-4.result c.from_residual-in_err-at-4.ensures.1 in
    let names = subst (λ n. IsRead (replicate n is_name_token) text start end) c.requires c.in_ok-at-3.ensures.read in
    rw (p.1, p.2) (bracket_misfit text c.in_ok-at.at c.in_ok-at.ensures.read start c.in_ok-at-2.ensures.read end names _ c.in_err-at-4.ensures.fault)

pub returns-in_err-word_after-clause-fault : goal.returns-in_err-word_after-clause-fault
returns-in_err-word_after-clause-fault c =
    let text = c.args.text.now in let start = c.in_ok-at-2.at in let end = c.in_ok-at-3.at in
    let p = err_from_is_err_and c.from_residual-in_err-word_after.result c.from_residual-in_err-word_after.ensures.1 in
    let names = subst (λ n. IsRead (replicate n is_name_token) text start end) c.requires c.in_ok-at-3.ensures.read in
    rw (p.1, p.2) (end_misfit text c.in_ok-at.at c.in_ok-at.ensures.read start c.in_ok-at-2.ensures.read end names c.in_ok-at-4.at c.in_ok-at-4.ensures.read _ c.in_err-word_after.ensures.fault)

pub returns-clause-read : goal.returns-clause-read
returns-clause-read c =
    let text = c.args.text.now in let start = c.in_ok-at-2.at in let end = c.in_ok-at-3.at in
    let names = subst (λ n. IsRead (replicate n is_name_token) text start end) c.requires c.in_ok-at-3.ensures.read in
    all_read text c.in_ok-at.at c.in_ok-at.ensures.read start c.in_ok-at-2.ensures.read end names c.in_ok-at-4.at c.in_ok-at-4.ensures.read c.in_ok-word_after.field-0 c.in_ok-word_after.ensures.read

pub returns-clause-characters : goal.returns-clause-characters
returns-clause-characters c =
    let text = c.args.text.now in let start = c.in_ok-at-2.at in
    c.in_ok-at-3.ensures.characters ∙ ap (characters_at text start) c.requires ∙ all_characters text c.in_ok-at.at c.in_ok-at.ensures.read start c.in_ok-at-2.ensures.read
