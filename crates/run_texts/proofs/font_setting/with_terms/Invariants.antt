-- the sources so far have their terms, each once
use Rattle.std.proofs.Common.{◌≡◌, length}
use Rattle.std.specs.Vec.{vec_len}
use Rattle.std.specs.List.{AllZip}
use Rattle.std.specs.Arc.{arc_value}
use Rattle.run_texts.specs.Setting.{HasTerms}
use Rattle.run_texts.proofs.font_setting.with_terms.Given as goal

abbrev pub invariant-loop-source : goal.invariant-loop-source
invariant-loop-source g l = record {
  have : AllZip (HasTerms (arc_value l.fn.terms)) l.yielded l.pairs.items;
  count : vec_len l.pairs ≡ length l.yielded;
}
