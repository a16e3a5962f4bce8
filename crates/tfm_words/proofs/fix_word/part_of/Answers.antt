use Rattle.std.proofs.Common.{FitsSigned, ℤ, w32, ap, ◌∙◌, subst, sym, to_z, of_z}
use Rattle.std.proofs.lemmas.Int.{to_z-of_z}
use Rattle.tfm_words.proofs.ScalingLemmas.{part_is, shifted_fits, shifted_is}
use Rattle.tfm_words.proofs.fix_word.part_of.Goals as goal

pub overflow_cast-result-2 : goal.overflow_cast-result-2
overflow_cast-result-2 c =
    let fits : ℤ → Type 0 = λ z. FitsSigned w32 z in
    subst fits
    (sym (part_is c.from.result c.from-2.result c.args.number c.args.halved c.args.halvings c.ranges.number c.from.ensures c.from-2.ensures c.requires.number c.requires.halved c.requires.halvings))
    (shifted_fits c.args.number c.args.halved c.args.halvings c.requires.number c.requires.halved c.requires.halvings)

pub returns : goal.returns
returns c =
    ap (λ (z : ℤ). to_z w32 (of_z w32 z)) (part_is c.from.result c.from-2.result c.args.number c.args.halved c.args.halvings c.ranges.number c.from.ensures c.from-2.ensures c.requires.number c.requires.halved c.requires.halvings)
    ∙ to_z-of_z w32 _ (shifted_fits c.args.number c.args.halved c.args.halvings c.requires.number c.requires.halved c.requires.halvings)
    ∙ shifted_is c.args.number c.args.halved c.args.halvings c.requires.halvings
