use Rattle.std.proofs.Common.{◌+◌, ◌-◌, ◌∷◌, true, false, arith, ap, sym, ◌∙◌}
use Rattle.encoding_vectors.specs.Reading.{tokens_at}
use Rattle.encoding_vectors.proofs.UnknownLemmas.{name_next, name_pushed, names_begin, unknown_in}
use Rattle.encoding_vectors.proofs.unknown.unknown_names.Goals as goal
use Rattle.encoding_vectors.proofs.unknown.unknown_names.Goals.{then-is_unknown+in_ok-push, else-is_unknown}

pub loop-code-init : goal.loop-code-init
loop-code-init c =
    let begin = names_begin c.args.text.now c.after_token.result c.after_token-at.result c.after_token.ensures.rest c.after_token-at.ensures.rest in
    (c.after_token-at.ensures.within, rw c.new-names.ensures.items begin)

pub loop-code-preserved : goal.loop-code-preserved
loop-code-preserved c =
    let text = c.args.text.now in let code = c.loop-code._code in let at = c.loop-code.at in let end = c.in-Some.end in
    let next = name_next text at c.in-Some.start end (256 - code) (256 - (code + 1)) (omega arith) c.in-Some.ensures.within.0 c.in-Some.ensures.tokens in
    let rest = unknown_in (256 - (code + 1)) (tokens_at text end) in (
      c.in-Some.ensures.within.1,
      elim c.if-is_unknown.branch [
        | then-is_unknown+in_ok-push w ↦
            name_pushed c.loop-code.names.items c.if-is_unknown.names.items _ _ rest _ (ap (λ v. v.items) w.names-is ∙ w.in_ok-push.ensures.items)
            c.loop-code.invariant.1 (next true (sym w.if-is_unknown.true ∙ c.is_unknown.ensures))
        | else-is_unknown w ↦
            let same = next false (sym w.if-is_unknown.false ∙ c.is_unknown.ensures) in
            grind (arith, c.loop-code.invariant.1)
      ],
    )
