-- Examples of boxes and their texts.
use Rattle.std.proofs.Common.{◌≡◌, pos, negsuc, [], ◌∷◌, refl, codes}
use Rattle.std.specs.Fmt.{digits}
use Rattle.tex_sizes.specs.declared.length_unit.LengthUnit.TheVariants.{ScaledPoints}
use Rattle.tex_sizes.specs.Lengths.{length_text}
use Rattle.lig_kern.specs.declared.item.Item.TheVariants.{Kern, Space, Skipped}
use Rattle.tfm_tables.specs.Font.{FontValue}
use Rattle.line_records.specs.Boxes.{BoxValue, box_of, box_record, box_text, largest, numbers_text}

the_largest : largest (pos 3 ∷ negsuc 4 ∷ pos 7 ∷ pos 2 ∷ []) ≡ pos 7
the_largest = refl

none_positive : largest (negsuc 4 ∷ negsuc 0 ∷ []) ≡ pos 0
none_positive = refl

-- two spaces, a kern of -5 and a skipped character
abbrev without_characters : FontValue → BoxValue
without_characters font = box_of font (Space (pos 20) ∷ Kern (negsuc 4) ∷ Skipped 300 ∷ Space (pos 20) ∷ [])

their_box : (font : FontValue) → without_characters font ≡ record { width = pos 35; height = pos 0; depth = pos 0; spaces = 2; skipped = 1 }
their_box font = refl

a_text : box_text ScaledPoints (record { width = negsuc 4; height = pos 70; depth = pos 0; spaces = 2; skipped = 1 }) ≡ codes " -5 70 0 2 1"
unfolding box_text length_text numbers_text digits
a_text = refl

a_record : box_record 3 12 (codes " 5 4 3 0 0") ≡ codes "3:12 box 5 4 3 0 0\n"
unfolding digits
a_record = refl
