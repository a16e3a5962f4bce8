-- Digits: each has the value of its code; a number that is too large stays too large; and a fraction that is
-- read from its last digit to its first, with each quotient rounded down, is rounded once.
use Rattle.std.proofs.Common.{◌≡◌, ◌∙◌, ℕ, zero, suc, ◌+◌, ◌-◌, ◌*◌, ◌/◌, ◌^◌, ◌<◌, ◌≤◌, ◌&&◌, Bool, true, false, cond, List, [], ◌∷◌, length, get_or, take, drop, min, refl, ap, sym, arith}
use Rattle.std.specs.Char.{digit_value, is_ascii_digit}
use Rattle.std.specs.Float.Numeral.{digits_len}
use Rattle.std.specs.Int.{IsInRange}
use Rattle.std.specs.Str.Parse.{AllDigits, digits_value, digits_value_after}
use Rattle.std.proofs.Math.Nat.{div-div-eq-div-mul, add-mul-div_right, pow-succ'}
use Rattle.std.proofs.lemmas.Int.Digits.{digits_value_more}
use Rattle.std.proofs.lemmas.Str.Parse.{digit_at, tells_all_ascii_digits}
use Rattle.std.proofs.lemmas.Str.{digit_value_digit}
use Rattle.std.proofs.lemmas.List.{drop_more}
use Rattle.std.proofs.lemmas.List.Sums.{prefix_len-le-length}
use Rattle.tex_sizes.specs.Lengths.{nearest_decimal}
use Rattle.tex_sizes.specs.Sizes.{nearest_binary}

digit_value_below : (c : ℕ) → is_ascii_digit c ≡ true → digit_value c < 10
digit_value_below c is =
    let range : IsInRange 48 57 c = (tells_all_ascii_digits.parts c [] (ap (λ b. b && true) is)).0 in
    let low = range.0 in let high = range.1 in
    omega (arith, digit_value_digit c range)

-- the digits that a text begins with are digits
pub leading_are_digits : (text : List ℕ) (n : ℕ) → n ≤ digits_len text → AllDigits 10 (take n text)
leading_are_digits text zero h = tt
leading_are_digits [] (suc n) h = tt
leading_are_digits (c ∷ cs) (suc n) h = by (leading_are_digits cs n) (is_ascii_digit c) refl h
  where
    by : (n ≤ digits_len cs → AllDigits 10 (take n cs)) → (b : Bool) → is_ascii_digit c ≡ b → suc n ≤ cond b (1 + digits_len cs) 0 → (digit_value c < 10) × AllDigits 10 (take n cs)
    by rest true is within = (digit_value_below c is, rest (omega arith))
    by rest false is within = absurd (omega arith)

-- the number of digits after a number is worth the number, moved by as many places
value_after : (n : ℕ) (digits : List ℕ) → digits_value_after 10 n digits ≡ n * 10 ^ length digits + digits_value 10 digits
value_after n [] = omega arith
value_after n (c ∷ cs) =
    let after_n = value_after (n * 10 + digit_value c) cs in
    let after_none = value_after (0 * 10 + digit_value c) cs in
    omega (arith, ap (λ x. n * x) (pow-succ' 10 (length cs)))

module _ (digits : List ℕ) (i : ℕ) (all : AllDigits 10 digits) (within : i < length digits) where
  pub at_least_48 : 48 ≤ get_or digits i 0
  at_least_48 = (digit_at digits i all within).0

  pub at_most_57 : get_or digits i 0 ≤ 57
  at_most_57 = (digit_at digits i all within).1

  -- one more digit of a number, if numbers above 2^27 count as 2^27
  pub one_more_digit : (number : ℕ) → number ≡ min (digits_value 10 (take i digits)) (2 ^ 27)
      → min (2 ^ 27) (10 * number + (get_or digits i 0 - 48)) ≡ min (digits_value 10 (take (i + 1) digits)) (2 ^ 27)
  one_more_digit number is =
      omega (arith, digits_value_more 10 digits i within, digit_value_digit (get_or digits i 0) (digit_at digits i all within))

pub digits_within : (text : List ℕ) → digits_len text ≤ length text
digits_within text = prefix_len-le-length is_ascii_digit text

pub ruleset splits = (digits_within, leading_are_digits)

pub ruleset wholes = (at_least_48, one_more_digit)

-- 10 to a power is positive
pub tens_positive : (k : ℕ) → 0 < 10 ^ k
tens_positive zero = omega arith
tens_positive (suc k) = omega (arith, pow-succ' 10 k, tens_positive k)

-- one more digit in front of the digits of a fraction
pub digit_in_front : (value power digit quotient : ℕ) → 0 < power → quotient ≡ 2 ^ 17 * value / power
    → (quotient + 2 ^ 17 * digit) / 10 ≡ 2 ^ 17 * (digit * power + value) / (10 * power)
digit_in_front value power digit quotient positive is =
    let sum : 2 ^ 17 * (digit * power + value) ≡ 2 ^ 17 * value + 2 ^ 17 * digit * power = grind arith in
    let first : 2 ^ 17 * (digit * power + value) / power ≡ quotient + 2 ^ 17 * digit = ap (λ n. n / power) sum ∙ add-mul-div_right (2 ^ 17 * value) (2 ^ 17 * digit) positive ∙ ap (λ n. n + 2 ^ 17 * digit) (sym is) in
    let swapped : power * 10 ≡ 10 * power = omega arith in
    ap (λ n. n / 10) (sym first) ∙ div-div-eq-div-mul (2 ^ 17 * (digit * power + value)) power 10 ∙ ap (λ n. 2 ^ 17 * (digit * power + value) / n) swapped

-- the last rounding: half of a unit is added to twice the fraction
pub nearest : (value power quotient : ℕ) → 0 < power → quotient ≡ 2 ^ 17 * value / power → (quotient + 1) / 2 ≡ (2 ^ 17 * value + power) / (2 * power)
nearest value power quotient positive is =
    let sum : 2 ^ 17 * value + power ≡ 2 ^ 17 * value + 1 * power = omega arith in
    let first : (2 ^ 17 * value + power) / power ≡ quotient + 1 = ap (λ n. n / power) sum ∙ add-mul-div_right (2 ^ 17 * value) 1 positive ∙ ap (λ n. n + 1) (sym is) in
    let swapped : power * 2 ≡ 2 * power = omega arith in
    ap (λ n. n / 2) (sym first) ∙ div-div-eq-div-mul (2 ^ 17 * value + power) power 2 ∙ ap (λ n. (2 ^ 17 * value + power) / n) swapped

module _ (digits : List ℕ) (i : ℕ) (all : AllDigits 10 digits) (within : i < length digits) where
  value_in_front : digits_value 10 (drop i digits) ≡ (get_or digits i 0 - 48) * 10 ^ length (drop (i + 1) digits) + digits_value 10 (drop (i + 1) digits)
  value_in_front =
      let value : 0 * 10 + digit_value (get_or digits i 0) ≡ get_or digits i 0 - 48 = omega (arith, digit_value_digit (get_or digits i 0) (digit_at digits i all within)) in
      ap (digits_value 10) (drop_more digits i 0 within)
      ∙ value_after (0 * 10 + digit_value (get_or digits i 0)) (drop (i + 1) digits)
      ∙ ap (λ n. n * 10 ^ length (drop (i + 1) digits) + digits_value 10 (drop (i + 1) digits)) value

  power_in_front : 10 ^ length (drop i digits) ≡ 10 * 10 ^ length (drop (i + 1) digits)
  power_in_front = ap (λ l. 10 ^ length l) (drop_more digits i 0 within) ∙ pow-succ' 10 (length (drop (i + 1) digits))

  -- one step of reading a fraction, from the digits after index i to those from index i on
  pub one_step : (quotient : ℕ) → quotient ≡ 2 ^ 17 * digits_value 10 (drop (i + 1) digits) / 10 ^ length (drop (i + 1) digits)
      → (quotient + 2 ^ 17 * (get_or digits i 0 - 48)) / 10 ≡ 2 ^ 17 * digits_value 10 (drop i digits) / 10 ^ length (drop i digits)
  one_step quotient is =
      let power = 10 ^ length (drop (i + 1) digits) in
      digit_in_front (digits_value 10 (drop (i + 1) digits)) power (get_or digits i 0 - 48) quotient (tens_positive (length (drop (i + 1) digits))) is
      ∙ ap (λ v. 2 ^ 17 * v / (10 * power)) (sym value_in_front)
      ∙ ap (λ p. 2 ^ 17 * digits_value 10 (drop i digits) / p) (sym power_in_front)

pub ruleset fractions = (at_least_48, at_most_57, one_step, nearest, tens_positive)

-- Law: TeX reads an amount in points with five decimals as the same amount.
read_with_five_decimals : (sp : ℕ) → nearest_binary 100000 (nearest_decimal 100000 sp) ≡ sp
read_with_five_decimals sp = omega arith
