-- The product and the shift in the code compute the rounded-down quotient of the definition, and it fits in
-- 32 bits.
use Rattle.std.proofs.Common.{◌≡◌, ℕ, zero, suc, ◌+◌, ◌-◌, ◌*◌, ◌/◌, ◌<◌, ◌≤◌, ◌^◌, true, ℤ, pos, negsuc, ◌+ℤ◌, ◌*ℤ◌, FitsSigned, w32, w64, to_z, of_z, arith, refl}
use Rattle.std.proofs.Math.Nat.{mul-le-mul, mul-le-mul_left, pow-le-pow_right, le-div_iff_mul-le, div-mul-le_self, lt-div-mul-add}
use Rattle.std.proofs.Math.IntN.{pos-*ℤ-pos, negsuc-*ℤ-pos, suc_ℤ-*ℤ}
use Rattle.std.proofs.lemmas.Nat.{div_below, pow_pos}
use Rattle.std.proofs.lemmas.Int.{ints, unsigned_abs-mul, to_z-of_z}
use Rattle.std.specs.Int.RustNames.{unsigned_abs}
use borrow.Author.Tests.{ltb-true}
use lib.Signed.{shr_z, mag}
use Rattle.tfm_words.specs.Scaling.{IsFloor, floor_of, is_scalable}

mag_le_abs : (z : ℤ) → mag z ≤ unsigned_abs z
mag_le_abs (pos n) = omega arith
mag_le_abs (negsuc n) = omega arith

abs_scalable : (w : ℤ) → is_scalable w ≡ true → unsigned_abs w ≤ 2 ^ 24
abs_scalable (pos n) h = omega (arith, ltb-true n (2 ^ 24) h)
abs_scalable (negsuc n) h = omega (arith, ltb-true n (2 ^ 24) h)

-- the magnitude of the product that scaling computes is below 2^47
product_below : (w : ℤ) (z : ℕ) → is_scalable w ≡ true → z < 2 ^ 23 → mag (w *ℤ pos z) < 2 ^ 47
product_below w z scalable small =
    let abs : unsigned_abs w * z ≤ 2 ^ 24 * (2 ^ 23 - 1) = mul-le-mul {m₁ = z} {m₂ = 2 ^ 23 - 1} (abs_scalable w scalable) (omega arith) in
    omega (arith, mag_le_abs (w *ℤ pos z), unsigned_abs-mul w (pos z), abs)

-- a number below 2^47, divided by 2^16 or more, is below 2^31
quotient_below : (n d : ℕ) → 2 ^ 16 ≤ d → n < 2 ^ 47 → n / d < 2 ^ 31
quotient_below n d least small = div_below n d (2 ^ 31) (omega arith) (omega arith)

pub shr_fits : (z : ℤ) (d : ℕ) → 2 ^ 16 ≤ d → mag z < 2 ^ 47 → FitsSigned w32 (shr_z z d)
shr_fits (pos n) d least small = record { sfits = quotient_below n d least small }
shr_fits (negsuc n) d least small = record { sfits = quotient_below n d least small }

-- a shift to the right is the quotient rounded down
pub shr_is_floor : (z : ℤ) (d : ℕ) → shr_z z d ≡ floor_of z d
shr_is_floor (pos n) d = refl
shr_is_floor (negsuc n) d = refl

-- the divisor of the definition is the power of two of the shift, and is at least 2^16
divisor_is : (e : ℕ) → e ≤ 4 → (2 ^ (20 - e) ≡ 65536 * 2 ^ (4 - e)) × (2 ^ 16 ≤ 2 ^ (20 - e))
divisor_is zero h = (refl, omega arith)
divisor_is (suc zero) h = (refl, omega arith)
divisor_is (suc (suc zero)) h = (refl, omega arith)
divisor_is (suc (suc (suc zero))) h = (refl, omega arith)
divisor_is (suc (suc (suc (suc zero)))) h = (refl, omega arith)
divisor_is (suc (suc (suc (suc (suc e))))) h = absurd (omega arith)

-- together: the shifted product fits in 32 bits, and is the product divided by 65536 * 2^(4 - e), rounded
-- down
pub shifted_fits : (w : ℤ) (z e : ℕ) → is_scalable w ≡ true → z < 2 ^ 23 → e ≤ 4 → FitsSigned w32 (shr_z (w *ℤ pos z) (2 ^ (20 - e)))
shifted_fits w z e scalable small few =
    shr_fits (w *ℤ pos z) (2 ^ (20 - e)) ((divisor_is e few).1) (product_below w z scalable small)

pub product_fits : (w : ℤ) (z : ℕ) → is_scalable w ≡ true → z < 2 ^ 23 → FitsSigned w64 (w *ℤ pos z)
product_fits w z scalable small = record { sfits = omega (arith, product_below w z scalable small) }

pub shifted_is : (w : ℤ) (z e : ℕ) → e ≤ 4 → shr_z (w *ℤ pos z) (2 ^ (20 - e)) ≡ floor_of (w *ℤ pos z) (65536 * 2 ^ (4 - e))
shifted_is w z e few = rw (shr_is_floor, (divisor_is e few).0) refl

-- the result of the code, with all its casts, is the shifted product
pub part_is : (a b w : ℤ) (z e : ℕ) → FitsSigned w32 w → a ≡ to_z w32 (of_z w32 w) → b ≡ pos z → is_scalable w ≡ true → z < 2 ^ 23 → e ≤ 4
    → to_z w64 (of_z w64 (shr_z (to_z w64 (of_z w64 (to_z w64 (of_z w64 a) *ℤ to_z w64 (of_z w64 b)))) (2 ^ (20 - e)))) ≡ shr_z (w *ℤ pos z) (2 ^ (20 - e))
part_is a b w z e fits a_is b_is scalable small few =
    let number : to_z w64 (of_z w64 a) ≡ w = rw (a_is, to_z-of_z w32 w fits) (to_z-of_z w64 w (record { sfits = omega (arith, fits.sfits) })) in
    let size : to_z w64 (of_z w64 b) ≡ pos z = rw b_is (to_z-of_z w64 (pos z) (record { sfits = omega arith })) in
    let product : to_z w64 (of_z w64 (w *ℤ pos z)) ≡ w *ℤ pos z = to_z-of_z w64 _ (product_fits w z scalable small) in
    let shifted : FitsSigned w32 (shr_z (w *ℤ pos z) (2 ^ (20 - e))) = shifted_fits w z e scalable small few in
    rw (number, size, product) (to_z-of_z w64 _ (record { sfits = omega (arith, shifted.sfits) }))

-- a size of 2^(23 + k) or more is still 2^23 or more after at most k halvings
pub still_large : (size k e : ℕ) → 2 ^ 23 * 2 ^ k ≤ size → e ≤ k → 2 ^ 23 ≤ size / 2 ^ e
still_large size k e large few =
    (le-div_iff_mul-le (pow_pos e)).1 (omega (arith, mul-le-mul_left (2 ^ 23) (pow-le-pow_right {n = 2} (omega arith) few), large))

-- one more than -(k + 1) is -k: its product with d, plus k * d, is 0
above_negsuc : (k d : ℕ) → (negsuc k +ℤ pos 1) *ℤ pos d +ℤ pos (k * d) ≡ pos 0
above_negsuc zero d = omega (arith, ints, pos-*ℤ-pos 0 d)
above_negsuc (suc k) d =
    let less : negsuc (suc k) +ℤ pos 1 ≡ negsuc k = omega (arith, ints) in rw less (omega (arith, ints, negsuc-*ℤ-pos k d))

-- `floor_of` gives the greatest number whose product with the divisor is at most z
pub floor_of-is : (z : ℤ) (d : ℕ) → 0 < d → IsFloor z d (floor_of z d)
floor_of-is (pos n) d some =
    let below : n < n / d * d + d = lt-div-mul-add some in record {
      within = omega (arith, ints, pos-*ℤ-pos (n / d) d, div-mul-le_self n d);
      greatest = omega (arith, ints, suc_ℤ-*ℤ (pos (n / d)) (pos d), pos-*ℤ-pos (n / d) d);
    }
floor_of-is (negsuc n) d some =
    let below : n < n / d * d + d = lt-div-mul-add some in record {
      within = omega (arith, ints, negsuc-*ℤ-pos (n / d) d);
      greatest = omega (arith, ints, above_negsuc (n / d) d, div-mul-le_self n d);
    }

-- the divisor in scaling isn't 0
pub divisor_some : (e : ℕ) → 0 < 65536 * 2 ^ e
divisor_some e = omega (arith, pow_pos e)
