use Rattle.std.proofs.Common.{ℕ, List, ap, length, nat_eq, not, sym, ◌∙◌}
use Rattle.encodings.specs.Lines.{has_gaps}
use Rattle.encodings.proofs.EncodedLemmas.{gaps_kept}
use Rattle.encodings.proofs.encoded_line.EncodedLine.has_gaps.Goals as goal

pub returns : goal.returns
returns c =
    ap not (c.is_empty.ensures ∙ ap (λ (gaps : List (ℕ × ℕ)). nat_eq (length gaps) 0) c.as_slice.ensures.value)
    ∙ sym (gaps_kept c.self.inside.codes.items c.self.inside.gaps.items c.self.invariant.1) ∙ ap has_gaps c.self.view_is
