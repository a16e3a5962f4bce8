use Rattle.std.proofs.Common.{sym, ◌∙◌}
use Rattle.encoding_vectors.specs.Reading.{token_between}
use Rattle.encoding_vectors.specs.Vectors.{is_name as is_name_token}
use Rattle.encoding_vectors.proofs.ReadingLemmas.{one_fits}
use Rattle.encoding_vectors.proofs.reading.name_after.Goals as goal

pub returns-then-is_name-clause-read : goal.returns-then-is_name-clause-read
returns-then-is_name-clause-read c =
    let text = c.args.text.now in
    one_fits is_name_token text c.args.at c.in-Some.end (token_between text c.in-Some.start c.in-Some.end) c.in-Some.ensures.within.1 c.in-Some.ensures.tokens
    (sym c.is_name.ensures ∙ c.if-is_name.true)
