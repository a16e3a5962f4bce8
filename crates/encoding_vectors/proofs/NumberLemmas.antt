-- Hexadecimal numbers, and the characters of numbers.
use Rattle.std.proofs.Common.{◌≡◌, ℕ, zero, suc, ◌+◌, ◌*◌, ◌^◌, ◌<◌, ◌≤◌, Bool, true, false, cond, Option, Some, None, arith, refl, ap, ◌∙◌, add-one}
use lib.Utf8.{scalar}
use Rattle.std.specs.Option.{SomeIff}
use Rattle.std.specs.Char.{IsScalar}
use Rattle.std.proofs.Math.Nat.{pow-succ'}
use Rattle.encoding_vectors.specs.Names.{as_character}

pub power_more : (count : ℕ) → 16 ^ (count + 1) ≡ 16 * 16 ^ count
power_more count = ap (λ n. 16 ^ n) (add-one count) ∙ pow-succ' 16 count

-- five digits are below 2^20
pub most : (count : ℕ) → count < 6 → 16 ^ count ≤ 1048576
most zero few = omega arith
most (suc zero) few = omega arith
most (suc (suc zero)) few = omega arith
most (suc (suc (suc zero))) few = omega arith
most (suc (suc (suc (suc zero)))) few = omega arith
most (suc (suc (suc (suc (suc zero))))) few = omega arith
most (suc (suc (suc (suc (suc (suc count)))))) few = absurd (omega arith)

-- the character of a number
pub character_made : (made : Option ℕ) (number : ℕ) → SomeIff made (IsScalar number) number → made ≡ as_character number
character_made (Some character) number is = rw is.0 (ap Some is.1)
character_made None number is = by (scalar number) refl
  where
    by : (b : Bool) → scalar number ≡ b → None ≡ cond b (Some number) None
    by true same = absurd (is same)
    by false same = refl
