-- The size that a text states, in scaled points (sp): a number with a unit, as TeX reads a dimension, or a
-- whole number of sp.
-- Public source: tex.web, section 102 (the fraction), section 107 (the product with a ratio), and sections
-- 448 and 452 to 458 (the form of a dimension and the units). The range is that of a size that a font is
-- read at, section 1259.
use Rattle.std.specs.Prelude.{ℕ, ◌+◌, ◌*◌, ◌/◌, ◌^◌, List, [], ◌∷◌, length, take, drop, Bool, cond, ◌&&◌, ◌||◌, Option, Some, None, option_map, option_and_then, nat_eq, nat_le, slice_index, bytes_eq, codes}
use Rattle.std.specs.Float.Numeral.{digits_len}
use Rattle.std.specs.Str.Parse.{digits_value, without_leading_plus}
use Rattle.tex_sizes.specs.declared.units.Ratio.{Ratio}

-- ---- the parts of a text

-- the decimal digits that a text begins with, maybe none
abbrev pub digits_of : List ℕ → List ℕ
digits_of text = take (digits_len text) text

-- the text after these digits
abbrev pub rest_of : List ℕ → List ℕ
rest_of text = drop (digits_len text) text

-- the text begins with a point or a comma
abbrev pub begins_with_point : List ℕ → Bool
begins_with_point text = nat_eq (slice_index text 0) 46 || nat_eq (slice_index text 0) 44

-- the digits after the point or comma that a text begins with, none if it doesn't begin with one
abbrev pub fraction_of : List ℕ → List ℕ
fraction_of text = cond (begins_with_point text) (digits_of (drop 1 text)) []

-- the text after the point or comma and its digits
abbrev pub unit_of : List ℕ → List ℕ
unit_of text = cond (begins_with_point text) (rest_of (drop 1 text)) text

-- ---- amounts

-- so many units of 1/power, in units of 2^-16, rounded to the nearest, and half of a unit upward
abbrev pub nearest_binary : ℕ → ℕ → ℕ
nearest_binary power number = (2 ^ 17 * number + power) / (2 * power)

-- the number that the digits write as a decimal fraction, in units of 2^-16, rounded in this way. (TeX keeps
-- 17 digits of a fraction. The other digits don't change this number, since the numbers at which the
-- rounding changes have at most 17 digits.)
abbrev pub fraction_value : List ℕ → ℕ
fraction_value digits = nearest_binary (10 ^ length digits) (digits_value 10 digits)

-- the lengths of the units in points, except sp: inch, pica, centimetre, millimetre, big point, didot point
-- and cicero
abbrev pub unit_lengths : List (List ℕ × Ratio)
unit_lengths =
    (codes "pt", record { over = 1; under = 1 })
    ∷ (codes "in", record { over = 7227; under = 100 })
    ∷ (codes "pc", record { over = 12; under = 1 })
    ∷ (codes "cm", record { over = 7227; under = 254 })
    ∷ (codes "mm", record { over = 7227; under = 2540 })
    ∷ (codes "bp", record { over = 7227; under = 7200 })
    ∷ (codes "dd", record { over = 1238; under = 1157 })
    ∷ (codes "cc", record { over = 14856; under = 1157 })
    ∷ []

-- the ratio beside this name in a table
abbrev pub ratio_in : List (List ℕ × Ratio) → List ℕ → Option Ratio
ratio_in [] name = None
ratio_in (row ∷ rows) name = cond (bytes_eq name row.0) (Some row.1) (ratio_in rows name)

-- so many points and units of 2^-16 pt, times the ratio, in sp, rounded down once
abbrev pub scaled_by : ℕ → ℕ → Ratio → ℕ
scaled_by whole fraction ratio = (2 ^ 16 * whole + fraction) * ratio.over / ratio.under

-- the amount in sp of a number, by the digits before and after its point, in this unit; the fraction of a
-- number of sp doesn't count
abbrev pub amount_of : List ℕ → List ℕ → List ℕ → Option ℕ
amount_of whole fraction unit =
    cond (bytes_eq unit (codes "sp"))
    (Some (digits_value 10 whole))
    (option_map (scaled_by (digits_value 10 whole) (fraction_value fraction)) (ratio_in unit_lengths unit))

-- ---- sizes

-- this number of sp, if it is a size
abbrev pub as_size : ℕ → Option ℕ
as_size amount = cond (nat_le 1 amount && nat_le amount 134217727) (Some amount) None

-- the amount in sp of digits, maybe with a point or a comma among or beside them, and a unit
abbrev pub dimension_of : List ℕ → Option ℕ
dimension_of text = let rest = rest_of text in amount_of (digits_of text) (fraction_of rest) (unit_of rest)

-- the text is digits alone, maybe after a plus sign
abbrev pub is_plain : List ℕ → Bool
is_plain text = nat_eq (length (rest_of (without_leading_plus text))) 0

-- the amount in sp of digits alone, or otherwise of a dimension
abbrev pub scaled_points_of : List ℕ → Option ℕ
scaled_points_of text = cond (is_plain text) (Some (digits_value 10 (digits_of (without_leading_plus text)))) (dimension_of text)

-- the size that a text states, or None if it states none
abbrev pub size_of : List ℕ → Option ℕ
size_of text = option_and_then as_size (scaled_points_of text)
