use Rattle.std.proofs.Common.{◌≡◌, Some, arith, sym, subst, ℕ}
use Rattle.std.specs.List.{slice_get}
use Rattle.tfm_tables.specs.Font.{FontValue}
use Rattle.tfm_tables.specs.declared.left_side.LeftSide.TheVariants.{Boundary, Char}
use Rattle.tfm_tables.specs.Program.{program_of, start_of, address_between}
use Rattle.tfm_tables.specs.Decoded.{starts_of}
use Rattle.tfm_tables.proofs.DecodedLemmas.{length-starts_of, start_at_code, start_at_boundary}
use Rattle.tfm_tables.proofs.font.Font.look_up.Goals as goal

pub find-requires : goal.find-requires
find-requires c = (
  program_of c.self.inside.metrics.words,
  starts_of c.self.inside.metrics.words,
  c.self.invariant.pairs,
  omega (arith, length-starts_of c.self.inside.metrics.words),
)

pub find-requires-in-Char : goal.find-requires-in-Char
find-requires-in-Char c = (
  program_of c.self.inside.metrics.words,
  starts_of c.self.inside.metrics.words,
  c.self.invariant.pairs,
  omega (arith, length-starts_of c.self.inside.metrics.words),
)

pub returns-in-Boundary : goal.returns-in-Boundary
unfolding address_between
returns-in-Boundary c =
    let words = c.self.inside.metrics.words in
    let found : c.find.result ≡ address_between words Boundary c.args.code =
    c.find.ensures (program_of words) (starts_of words) c.self.invariant.few c.self.invariant.pairs (start_of words Boundary) (start_at_boundary words) in
    let of_value : FontValue → Type 0 = λ v. c.find.result ≡ address_between v.words Boundary c.args.code in
    rw c.in-Boundary.is (subst of_value c.self.view_is found)

pub returns-in-Char : goal.returns-in-Char
unfolding address_between
returns-in-Char c =
    let words = c.self.inside.metrics.words in
    let left = c.in-Char.left in
    let starts_at : ℕ → Type 0 = λ side. slice_get (starts_of words) side ≡ Some (start_of words (Char left)) in
    let start : slice_get (starts_of words) c.from.result ≡ Some (start_of words (Char left)) =
    subst starts_at (sym c.from.ensures) (start_at_code words left (omega arith)) in
    let found : c.find-in-Char.result ≡ address_between words (Char left) c.args.code =
    c.find-in-Char.ensures (program_of words) (starts_of words) c.self.invariant.few c.self.invariant.pairs (start_of words (Char left)) start in
    let of_value : FontValue → Type 0 = λ v. c.find-in-Char.result ≡ address_between v.words (Char left) c.args.code in
    rw c.in-Char.is (subst of_value c.self.view_is found)
