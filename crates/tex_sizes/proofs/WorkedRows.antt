-- Worked rows, computed from the definitions alone. The sizes, and the lengths in points, are those that TeX prints.
use Rattle.std.proofs.Common.{◌≡◌, ℕ, List, [], ◌∷◌, Option, Some, None, pos, negsuc, map, refl, codes}
use Rattle.std.specs.Fmt.{digits}
use Rattle.tex_sizes.specs.Lengths.{decimal_in, decimal_text, length_text, points_power}
use Rattle.tex_sizes.specs.Sizes.{size_of}
use Rattle.tex_sizes.specs.declared.length_unit.LengthUnit.TheVariants.{ScaledPoints, Points, BigPoints, Millimetres, Centimetres, Inches, Picas}

-- each of these texts states the size beside it, or no size
abbrev AreSizes : List (List ℕ × Option ℕ) → Type 0
AreSizes rows = map (λ row. size_of row.0) rows ≡ map (λ row. row.1) rows

-- each unit, as TeX prints it by \number\dimen0
in_units :
    AreSizes
    ((codes "12pt", Some 786432)
    ∷ (codes "1in", Some 4736286)
    ∷ (codes "1pc", Some 786432)
    ∷ (codes "1cm", Some 1864679)
    ∷ (codes "4mm", Some 745871)
    ∷ (codes "12bp", Some 789381)
    ∷ (codes "12dd", Some 841489)
    ∷ (codes "1cc", Some 841489)
    ∷ (codes "655360sp", Some 655360)
    ∷ [])
in_units = refl

-- the point or comma
with_a_point :
    AreSizes
    ((codes "10.95pt", Some 717619)
    ∷ (codes "10,95pt", Some 717619)
    ∷ (codes "10.5bp", Some 690708)
    ∷ (codes ".5pt", Some 32768)
    ∷ (codes "5.pt", Some 327680)
    ∷ [])
with_a_point = refl

-- rounding: 2^-17 pt is half of a sp, and is rounded upward; the quotient of a ratio is rounded down
rounded :
    AreSizes
    ((codes "0.00000762939453125pt", Some 1)
    ∷ (codes "0.0000076293945312499999pt", None)
    ∷ (codes "0.9999999pt", Some 65536)
    ∷ (codes "3.333333333333333333333cm", Some 6215589)
    ∷ (codes "1.9sp", Some 1)
    ∷ [])
rounded = refl

-- the range
in_range :
    AreSizes
    ((codes "2047.99999pt", Some 134217727)
    ∷ (codes "2048pt", None)
    ∷ (codes "719.79mm", None)
    ∷ (codes "134217727sp", Some 134217727)
    ∷ (codes "134217728sp", None)
    ∷ (codes "0.9sp", None)
    ∷ (codes "123456789012345678901234567890pt", None)
    ∷ [])
in_range = refl

-- whole numbers of sp without a unit
without_a_unit :
    AreSizes
    ((codes "655360", Some 655360)
    ∷ (codes "+12", Some 12)
    ∷ (codes "0000000000000000000012", Some 12)
    ∷ (codes "134217727", Some 134217727)
    ∷ (codes "134217728", None)
    ∷ (codes "0", None)
    ∷ (codes "12.0", None)
    ∷ [])
without_a_unit = refl

-- texts that state no size
of_other_texts :
    AreSizes
    ((codes "", None)
    ∷ (codes "pt", None)
    ∷ (codes ".pt", None)
    ∷ (codes "12PT", None)
    ∷ (codes "1em", None)
    ∷ (codes "1mu", None)
    ∷ (codes "12truept", None)
    ∷ (codes "12 pt", None)
    ∷ (codes "12pt ", None)
    ∷ (codes "+12pt", None)
    ∷ (codes "-12pt", None)
    ∷ (codes "++12", None)
    ∷ (codes "1.2.3pt", None)
    ∷ (codes "1e1pt", None)
    ∷ (codes "x", None)
    ∷ [])
of_other_texts = refl

-- as TeX prints them by \the; the last one is above the range of a dimension
lengths_in_points :
    (length_text Points (pos 0) ≡ codes "0.0pt")
    × (length_text Points (pos 6554) ≡ codes "0.1pt")
    × (length_text Points (pos 7) ≡ codes "0.0001pt")
    × (length_text Points (pos 1) ≡ codes "0.00002pt")
    × (length_text Points (pos 1024) ≡ codes "0.01563pt")
    × (length_text Points (pos 65535) ≡ codes "0.99998pt")
    × (length_text Points (negsuc 18204) ≡ codes "-0.27779pt")
    × (length_text Points (pos 2585033) ≡ codes "39.44447pt")
    × (length_text Points (pos 1073741823) ≡ codes "16383.99998pt")
    × (length_text Points (pos 9223372036854775807) ≡ codes "140737488355327.99998pt")
unfolding length_text decimal_in points_power decimal_text digits
lengths_in_points = (refl, refl, refl, refl, refl, refl, refl, refl, refl, refl)

-- two halves of a fifth decimal, an amount that is printed as zero, and one amount in each other unit
lengths_in_units :
    (length_text Inches (pos 1850112) ≡ codes "0.39062in")
    × (length_text Inches (pos 5550336) ≡ codes "1.17188in")
    × (length_text Centimetres (negsuc 2) ≡ codes "0.00000cm")
    × (length_text Millimetres (negsuc 2) ≡ codes "-0.00002mm")
    × (length_text Picas (pos 786432) ≡ codes "1.00000pc")
    × (length_text BigPoints (pos 789381) ≡ codes "12.00000bp")
    × (length_text ScaledPoints (negsuc 18204) ≡ codes "-18205")
unfolding length_text decimal_in points_power decimal_text digits
lengths_in_units = (refl, refl, refl, refl, refl, refl, refl)
