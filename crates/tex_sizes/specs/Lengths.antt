-- The text of a length in a unit.
-- Public source: tex.web, section 103, for points, which are printed as `\the` prints a dimension, and
-- section 458 for the units. The five decimals of the other units are this project's own.
use Rattle.std.specs.Prelude.{ℕ, ℤ, ◌+◌, ◌*◌, ◌/◌, ◌%◌, ◌^◌, ◌==◌, ◌&&◌, List, [], ◌∷◌, ◌++◌, Bool, Option, bytes_eq, codes, decimal, drop, nat_lt, unsigned_abs, unwrap_or, if◌then◌else◌}
use Rattle.std.specs.Fmt.{sign_text, signed_decimal}
use Rattle.std.specs.Int.{is_negative}
use Rattle.std.specs.List.{find}
use Rattle.std.specs.Option.{option_map_or}
use Rattle.tex_sizes.specs.Sizes.{nearest_binary, ratio_in, unit_lengths}
use Rattle.tex_sizes.specs.declared.decimals.Decimal.{Decimal}
use Rattle.tex_sizes.specs.declared.length_unit.LengthUnit.{LengthUnit}
use Rattle.tex_sizes.specs.declared.length_unit.LengthUnit.TheVariants.{ScaledPoints, Points, BigPoints, Millimetres, Centimetres, Inches, Picas}
use Rattle.tex_sizes.specs.declared.units.Ratio.{Ratio}

-- the name of a unit
abbrev pub unit_name : LengthUnit → List ℕ
unit_name ScaledPoints = codes "sp"
unit_name Points = codes "pt"
unit_name BigPoints = codes "bp"
unit_name Millimetres = codes "mm"
unit_name Centimetres = codes "cm"
unit_name Inches = codes "in"
unit_name Picas = codes "pc"

-- all units
abbrev pub units : List LengthUnit
units = ScaledPoints ∷ Points ∷ BigPoints ∷ Millimetres ∷ Centimetres ∷ Inches ∷ Picas ∷ []

-- the unit of a name, if there is one
abbrev pub unit_named : List ℕ → Option LengthUnit
unit_named name = find (λ unit. bytes_eq name (unit_name unit)) units

-- ---- decimal numbers

-- an amount of sp in points, as a number of units of 1/power, rounded to the nearest, and half upward
abbrev pub nearest_decimal : ℕ → ℕ → ℕ
nearest_decimal power sp = (power * sp + 2 ^ 15) / 2 ^ 16

-- TeX reads this number of points as the same amount of sp
abbrev pub is_read_back : ℕ → ℕ → Bool
is_read_back sp power = nearest_binary power (nearest_decimal power sp) == sp

-- 10 to the number of decimals of an amount in points: the fewest decimals with which TeX reads the same
-- amount, but at least one; five are always enough
unfoldable pub points_power : ℕ → ℕ
points_power sp = unwrap_or (find (is_read_back sp) (10 ∷ 100 ∷ 1000 ∷ 10000 ∷ [])) 100000

-- a quotient, rounded to the nearest whole number, and half to the even one
abbrev pub nearest_even : ℕ → ℕ → ℕ
nearest_even dividend divisor =
    if (2 * (dividend % divisor) == divisor) && (dividend / divisor % 2 == 0)
    then dividend / divisor
    else (2 * dividend + divisor) / (2 * divisor)

-- an amount of sp as a decimal number in a unit, whose length in points is this ratio: in points with the
-- fewest decimals, and in another unit with five
unfoldable pub decimal_in : LengthUnit → Ratio → ℕ → Decimal
decimal_in Points ratio sp = record { number = nearest_decimal (points_power sp) sp; power = points_power sp }
decimal_in unit ratio sp =
    record { number = nearest_even (100000 * ratio.under * sp) (2 ^ 16 * ratio.over); power = 100000 }

-- the text of a decimal number: the digits before the point, and as many decimals as the power has zeros
unfoldable pub decimal_text : Decimal → List ℕ
decimal_text d = decimal (d.number / d.power) ++ codes "." ++ drop 1 (decimal (d.power + d.number % d.power))

-- ---- lengths

-- the sign of a length of so many sp: a minus sign of a negative one, unless its decimal number is zero
abbrev pub sign_of : ℤ → Decimal → List ℕ
sign_of sp d = sign_text (is_negative sp && nat_lt 0 d.number)

-- the decimal number of a length of so many sp, with its sign, and the name of the unit
abbrev pub length_with : LengthUnit → ℤ → Decimal → List ℕ
length_with unit sp d = sign_of sp d ++ decimal_text d ++ unit_name unit

-- the text of a length of so many sp in a unit; the unit without a ratio is sp, whose name isn't printed
unfoldable pub length_text : LengthUnit → ℤ → List ℕ
length_text unit sp =
    option_map_or (λ ratio. length_with unit sp (decimal_in unit ratio (unsigned_abs sp)))
    (ratio_in unit_lengths (unit_name unit)) (signed_decimal sp)
