use Rattle.std.proofs.Common.{rules, ap, ◌∙◌}
use Rattle.encodings.specs.VectorContents.{Contents}
use Rattle.encodings.proofs.VectorLemmas.{made, made_of}
use Rattle.encodings.proofs.vector.Vector.of_characters.Goals as goal

pub returns : goal.returns
returns c vector is = made_of c.args.characters.now vector (ap (λ (contents : Contents). contents.characters) is ∙ search (rules, made))
