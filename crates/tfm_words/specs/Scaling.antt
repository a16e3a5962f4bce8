-- The scaled value of a fix_word at a size, in scaled points (sp): a large size is halved first, and then one
-- product is divided and rounded down.
-- Public source: tex.web, sections 571 and 572, where the formula precedes the code.
use Rattle.std.specs.Prelude.{ℕ, ℤ, pos, negsuc, ◌*◌, ◌/◌, ◌-◌, ◌^◌, ◌*ℤ◌, ◌+ℤ◌, ◌≤ℤ◌, ◌<ℤ◌, [], ◌∷◌, Option, Some, None, find, unwrap_or, nat_lt, Bool, if◌then◌else◌}

-- the quotient of a signed number, rounded down: to the smaller number, for a negative number too
abbrev pub floor_of : ℤ → ℕ → ℤ
floor_of (pos n) divisor = pos (n / divisor)
floor_of (negsuc n) divisor = negsuc (n / divisor)

-- the property of that quotient: it is the greatest number whose product with the divisor is at most z
pub record IsFloor (z : ℤ) (divisor : ℕ) (quotient : ℤ) : Type 0 where
  pub within : (quotient *ℤ pos divisor) ≤ℤ z
  pub greatest : z <ℤ ((quotient +ℤ pos 1) *ℤ pos divisor)

-- for a size below 2^27, as every `Size` is: the smallest number of halvings, each rounded down, that
-- brings it below 2^23; it is at most four
abbrev pub halvings_of : ℕ → ℕ
halvings_of size = unwrap_or (find (λ e. nat_lt (size / 2 ^ e) (2 ^ 23)) (0 ∷ 1 ∷ 2 ∷ 3 ∷ [])) 4

-- the size after these halvings, each rounded down
abbrev pub halved : ℕ → ℕ
halved size = size / 2 ^ halvings_of size

-- the number beta of the public source: 16, halved as often as the size
abbrev pub beta_of : ℕ → ℕ
beta_of size = 2 ^ (4 - halvings_of size)

-- whether a fix_word can be scaled: it is from -2^24 to 2^24 - 1, which means that its first byte is 0 or 255
abbrev pub is_scalable : ℤ → Bool
is_scalable (pos n) = nat_lt n (2 ^ 24)
is_scalable (negsuc n) = nat_lt n (2 ^ 24)

-- the scaled value of the fix_word w at a size, in sp; none if w can't be scaled
abbrev pub scaled_at : ℤ → ℕ → Option ℤ
scaled_at w size = if is_scalable w then Some (floor_of (w *ℤ pos (halved size)) (65536 * beta_of size)) else None
