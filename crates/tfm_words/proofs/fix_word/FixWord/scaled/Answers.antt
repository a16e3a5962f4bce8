use Rattle.std.proofs.Common.{◌≡◌, ℕ, ◌*◌, ◌-◌, ◌*ℤ◌, ℤ, pos, subst, sym, arith, to_z, of_z, w32}
use Rattle.std.proofs.lemmas.Int.{to_z-of_z}
use Rattle.tfm_words.specs.Scaling.{IsFloor, beta_of, floor_of, halved, halvings_of}
use Rattle.tfm_words.proofs.ScalingLemmas.{divisor_some, floor_of-is}
use Rattle.tfm_words.proofs.fix_word.FixWord.scaled.Goals as goal

pub returns-clause-floor : goal.returns-clause-floor
returns-clause-floor c =
    let product : ℤ = c.args.self.0 *ℤ pos (halved c.args.size) in
    let divisor : ℕ = 65536 * beta_of c.args.size in
    let is : to_z w32 (of_z w32 c.part_of-amount.result) ≡ floor_of product divisor = grind (arith, to_z-of_z) in
    let family : ℤ → Type 0 = λ points. IsFloor product divisor points in
    subst family (sym is) (floor_of-is product divisor (divisor_some (4 - halvings_of c.args.size)))
