use Rattle.std.proofs.Common.{◌≡◌, ◌+◌, ◌-◌, Some, cond, take, drop, length, arith, ap, sym, ◌∙◌, true, false}
use Rattle.std.specs.Prelude.{bytes_eq}
use Rattle.encoding_vectors.specs.Glyphs.{digits_beside, rows_in}
use Rattle.encoding_vectors.proofs.GlyphLemmas.{no_row, row_there}
use Rattle.encoding_vectors.proofs.glyphs.digits_in.Goals as goal

pub returns-then-eq-clause-digits : goal.returns-then-eq-clause-digits
returns-then-eq-clause-digits c =
    let name = c.args.name.now in let rest = c.loop-rest.rest.now in let count = length name in
    let same : bytes_eq (take count rest) name ≡ true = sym c.eq.ensures ∙ c.if-eq.true in
    let four : 4 ≡ count + 5 - (count + 1) = omega arith in
    c.loop-rest.invariant ∙ row_there rest name (omega arith)
    ∙ ap (λ b. cond b (Some (take 4 (drop (count + 1) rest))) (digits_beside (rows_in count (drop (count + 6) rest)) name)) same
    ∙ ap (λ n. Some (take n (drop (count + 1) rest))) four

pub loop-rest-preserved : goal.loop-rest-preserved
loop-rest-preserved c =
    let name = c.args.name.now in let rest = c.loop-rest.rest.now in let count = length name in
    let other : bytes_eq (take count rest) name ≡ false = sym c.eq.ensures ∙ c.if-eq.false in
    c.loop-rest.invariant ∙ row_there rest name (omega arith)
    ∙ ap (λ b. cond b (Some (take 4 (drop (count + 1) rest))) (digits_beside (rows_in count (drop (count + 6) rest)) name)) other
    ∙ ap (λ l. digits_beside (rows_in count l) name) (sym c.split_at.ensures.back)

pub returns-clause-digits : goal.returns-clause-digits
returns-clause-digits c = c.loop-rest.invariant ∙ no_row c.loop-rest.rest.now c.args.name.now (omega arith)
