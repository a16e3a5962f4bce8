use Rattle.std.proofs.Common.{◌≡◌, arith, ap, ◌∙◌}
use Rattle.encodings.specs.Parts.{joined, parts_of}
use Rattle.encodings.proofs.EncodedLemmas.{all_codes}
use Rattle.encodings.proofs.PartLemmas.{last_part, parts_joined}
use Rattle.line_records.specs.Results.{only_part}
use Rattle.line_records.proofs.keeping.set_codes.Goals as goal

pub set_parts-requires : goal.set_parts-requires
set_parts-requires c = rw (ap joined c.of_codes.ensures ∙ parts_joined c.args.codes.now) c.requires.short

pub returns-clause-kept : goal.returns-clause-kept
returns-clause-kept c =
    let part : parts_of c.args.codes.now ≡ only_part c.args.codes.now = last_part c.args.codes.now (all_codes c.args.codes.now (λ k. omega (arith, c.type_inv.codes k))) in
    rw (c.of_codes.ensures ∙ part) at c.set_parts.ensures
