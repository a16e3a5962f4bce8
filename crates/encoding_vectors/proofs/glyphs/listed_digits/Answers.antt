use Rattle.std.proofs.Common.{◌≡◌, ℕ, List, None, Some, MatchOption, length, arith, subst}
use Rattle.std.specs.Borrow.{Bor}
use Rattle.encoding_vectors.specs.Glyphs.{digits_beside, listed_digits, rows_in}
use Rattle.encoding_vectors.proofs.GlyphLemmas.{too_long}
use Rattle.encoding_vectors.proofs.glyphs.listed_digits.Goals as goal

pub returns-then-name-ge40-clause-digits : goal.returns-then-name-ge40-clause-digits
returns-then-name-ge40-clause-digits c = too_long c.args.name.now (omega arith)

pub returns-clause-digits : goal.returns-clause-digits
unfolding listed_digits
returns-clause-digits c =
    let name = c.args.name.now in
    subst (λ rows. MatchOption c.digits_in.result (digits_beside (rows_in (length name) rows) name ≡ None) (λ (digits : Bor (List ℕ)). digits_beside (rows_in (length name) rows) name ≡ Some digits.now)) c.rows_with.ensures c.digits_in.ensures.digits
