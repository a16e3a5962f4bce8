use Rattle.std.proofs.Common.{ap, ◌∙◌}
use Rattle.std.specs.List.{filter}
use Rattle.encodings.specs.Lines.{is_code}
use Rattle.encodings.proofs.EncodedLemmas.{codes_filtered}
use Rattle.encodings.proofs.encoded_line.EncodedLine.codes.Goals as goal

pub returns : goal.returns
returns c = c.as_slice.ensures.value ∙ codes_filtered 0 c.self.inside.codes.items c.self.inside.gaps.items c.self.invariant.1 ∙ ap (filter is_code) c.self.view_is
