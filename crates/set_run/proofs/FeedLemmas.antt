-- the first place of a byte, as a search tells it, is its position
use Rattle.std.proofs.Common.{arith, ◌≡◌, ◌<◌, Bool, true, false, ℕ, List, length, Option, Some, None, refl}
use Rattle.std.specs.Prelude.{get_or, ◌==◌}
use Rattle.std.specs.List.{position, position_or_len}
use Rattle.std.proofs.lemmas.List.Sums.{position_or_len_is}
use Rattle.memchr.specs.Find.{IsFirstByte, is_byte}

-- what isn't true is false
is_false : (b : Bool) → ¬ (b ≡ true) → b ≡ false
is_false true differs = absurd (differs refl)
is_false false differs = refl

-- the first place that holds the byte, or none, is what `position` gives
pub first_byte_position : (a : ℕ) (hay : List ℕ) (place : Option ℕ) → IsFirstByte (is_byte a) hay place → place ≡ position (λ x. x == a) hay
first_byte_position a hay None nowhere =
    let none : position_or_len (λ x. x == a) hay ≡ length hay =
    position_or_len_is (λ x. x == a) hay (length hay) 0 (omega arith) (λ k below. is_false (get_or hay k 0 == a) (nowhere k (omega arith) below)) (λ below. absurd (omega (arith, below))) in
    grind (arith, none)
first_byte_position a hay (Some k) found =
    let here : position_or_len (λ x. x == a) hay ≡ k =
    position_or_len_is (λ x. x == a) hay k 0 (omega (arith, found.0.high)) (λ j below. is_false (get_or hay j 0 == a) (found.0.before j (omega arith) below)) (λ _. found.1) in
    let below : k < length hay = found.0.high in
    grind (arith, here, below)
