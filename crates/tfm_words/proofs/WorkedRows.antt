-- Worked examples, computed from the definitions alone.
use Rattle.std.proofs.Common.{◌≡◌, ℕ, List, [], ◌∷◌, ◌++◌, take, pos, negsuc, Option, Some, None, refl}
use Rattle.std.specs.Prelude.{Result, Ok, Err}
use Rattle.std.specs.List.{flat_map}
use Rattle.byteorder.specs.Endian.{big_bytes}
use Rattle.tfm_words.specs.declared.numbers.Numbers.{Numbers}
use Rattle.tfm_words.specs.declared.count_fault.CountFault.{CountFault}
use Rattle.tfm_words.specs.declared.count_fault.CountFault.TheVariants.{Truncated, CountRange, CharRange, HeaderShort, EmptyTable, TooManyRecipes, LengthEquation}
use Rattle.tfm_words.specs.declared.count.Count.TheVariants.{Nh}
use Rattle.tfm_words.specs.declared.table.Table.{Table}
use Rattle.tfm_words.specs.declared.table.Table.TheVariants.{CharInfo, Height, Italic, Kern, Param}
use Rattle.tfm_words.specs.declared.design.DesignFault.{DesignFault}
use Rattle.tfm_words.specs.declared.design.DesignFault.TheVariants.{DesignSize}
use Rattle.tfm_words.specs.Counts.{counts_of, first_word_of, length_of}
use Rattle.tfm_words.specs.CountFaults.{count_fault_of, range_faults, shape_faults, faults_within}
use Rattle.tfm_words.specs.Word.{value_of}
use Rattle.tfm_words.specs.Scaling.{scaled_at}
use Rattle.tfm_words.specs.DesignSize.{design_size_of}

-- ---- scaling

half_of_ten_points : scaled_at (value_of (0 ∷ 8 ∷ 0 ∷ 0 ∷ [])) 655360 ≡ Some (pos 327680)
half_of_ten_points = refl

least_positive : scaled_at (value_of (0 ∷ 0 ∷ 0 ∷ 1 ∷ [])) 655360 ≡ Some (pos 0)
least_positive = refl

-- the value is rounded down, and not toward zero
minus_one : scaled_at (value_of (255 ∷ 255 ∷ 255 ∷ 255 ∷ [])) 655360 ≡ Some (negsuc 0)
minus_one = refl

a_negative_kern : scaled_at (value_of (255 ∷ 255 ∷ 0 ∷ 0 ∷ [])) 655360 ≡ Some (negsuc 40959)
a_negative_kern = refl

above_the_range : scaled_at (value_of (1 ∷ 0 ∷ 0 ∷ 0 ∷ [])) 655360 ≡ None
above_the_range = refl

below_the_range : scaled_at (value_of (254 ∷ 255 ∷ 255 ∷ 255 ∷ [])) 655360 ≡ None
below_the_range = refl

-- halving a large size drops its lowest bits
at_the_greatest_size : scaled_at (value_of (0 ∷ 16 ∷ 0 ∷ 0 ∷ [])) 134217727 ≡ Some (pos 134217712)
at_the_greatest_size = refl

one_halving : scaled_at (value_of (0 ∷ 16 ∷ 0 ∷ 0 ∷ [])) 8388609 ≡ Some (pos 8388608)
one_halving = refl

no_halving : scaled_at (value_of (0 ∷ 16 ∷ 0 ∷ 0 ∷ [])) 8388607 ≡ Some (pos 8388607)
no_halving = refl

-- ---- counts

-- the bytes of a file: its twelve counts, and the words after them
abbrev file : List ℕ → List ℕ → List ℕ
file counts words = flat_map (big_bytes 2) counts ++ flat_map (big_bytes 4) words

-- the words after the counts of a font without characters: check sum, design size of 5 pt, and entry 0 of
-- four tables
abbrev words : List ℕ
words = 0 ∷ 5242880 ∷ 0 ∷ 0 ∷ 0 ∷ 0 ∷ []

-- the first error in the counts of a file
abbrev fault : List ℕ → List ℕ → Option CountFault
fault counts words = count_fault_of (file counts words)

abbrev no_characters : List ℕ
no_characters = file (12 ∷ 2 ∷ 1 ∷ 0 ∷ 1 ∷ 1 ∷ 1 ∷ 1 ∷ 0 ∷ 0 ∷ 0 ∷ 0 ∷ []) words

twelve_counts : counts_of no_characters ≡ record { lf = 12; lh = 2; bc = 1; ec = 0; nw = 1; nh = 1; nd = 1; ni = 1; nl = 0; nk = 0; ne = 0; np = 0 }
unfolding counts_of
twelve_counts = refl

without_fault : count_fault_of no_characters ≡ None
unfolding counts_of range_faults shape_faults faults_within
without_fault = refl

the_other_spelling : fault (12 ∷ 2 ∷ 256 ∷ 255 ∷ 1 ∷ 1 ∷ 1 ∷ 1 ∷ 0 ∷ 0 ∷ 0 ∷ 0 ∷ []) words ≡ None
unfolding counts_of range_faults shape_faults faults_within
the_other_spelling = refl

a_byte_more : count_fault_of (no_characters ++ 255 ∷ []) ≡ None
unfolding counts_of range_faults shape_faults faults_within
a_byte_more = refl

a_byte_less : count_fault_of (take 47 no_characters) ≡ Some (Truncated 48)
unfolding counts_of range_faults shape_faults faults_within
a_byte_less = refl

cut_within_the_counts : count_fault_of (take 23 no_characters) ≡ Some (Truncated 24)
unfolding counts_of range_faults shape_faults faults_within
cut_within_the_counts = refl

lf_13 : fault (13 ∷ 2 ∷ 1 ∷ 0 ∷ 1 ∷ 1 ∷ 1 ∷ 1 ∷ 0 ∷ 0 ∷ 0 ∷ 0 ∷ []) words ≡ Some LengthEquation
unfolding counts_of range_faults shape_faults faults_within
lf_13 = refl

nh_32768 : fault (12 ∷ 2 ∷ 1 ∷ 0 ∷ 1 ∷ 32768 ∷ 1 ∷ 1 ∷ 0 ∷ 0 ∷ 0 ∷ 0 ∷ []) words ≡ Some (CountRange Nh)
unfolding counts_of range_faults shape_faults faults_within
nh_32768 = refl

bc_2 : fault (12 ∷ 2 ∷ 2 ∷ 0 ∷ 1 ∷ 1 ∷ 1 ∷ 1 ∷ 0 ∷ 0 ∷ 0 ∷ 0 ∷ []) words ≡ Some CharRange
unfolding counts_of range_faults shape_faults faults_within
bc_2 = refl

ec_256 : fault (12 ∷ 2 ∷ 1 ∷ 256 ∷ 1 ∷ 1 ∷ 1 ∷ 1 ∷ 0 ∷ 0 ∷ 0 ∷ 0 ∷ []) words ≡ Some CharRange
unfolding counts_of range_faults shape_faults faults_within
ec_256 = refl

lh_1 : fault (12 ∷ 1 ∷ 1 ∷ 0 ∷ 1 ∷ 1 ∷ 1 ∷ 1 ∷ 0 ∷ 0 ∷ 0 ∷ 0 ∷ []) words ≡ Some HeaderShort
unfolding counts_of range_faults shape_faults faults_within
lh_1 = refl

ni_0 : fault (12 ∷ 2 ∷ 1 ∷ 0 ∷ 1 ∷ 1 ∷ 1 ∷ 0 ∷ 0 ∷ 0 ∷ 0 ∷ 0 ∷ []) words ≡ Some (EmptyTable Italic)
unfolding counts_of range_faults shape_faults faults_within
ni_0 = refl

ne_257 : fault (12 ∷ 2 ∷ 1 ∷ 0 ∷ 1 ∷ 1 ∷ 1 ∷ 1 ∷ 0 ∷ 0 ∷ 257 ∷ 0 ∷ []) words ≡ Some TooManyRecipes
unfolding counts_of range_faults shape_faults faults_within
ne_257 = refl

-- two conditions hold: the first of them gives the error
nh_0_and_ne_257 : fault (12 ∷ 2 ∷ 1 ∷ 0 ∷ 1 ∷ 0 ∷ 1 ∷ 1 ∷ 0 ∷ 0 ∷ 257 ∷ 0 ∷ []) words ≡ Some (EmptyTable Height)
unfolding counts_of range_faults shape_faults faults_within
nh_0_and_ne_257 = refl

-- ---- the positions of tables, in a font with the characters 97 to 99, three instructions and two kerns

abbrev ligature : Numbers
ligature = record { lf = 25; lh = 2; bc = 97; ec = 99; nw = 4; nh = 1; nd = 1; ni = 1; nl = 3; nk = 2; ne = 0; np = 2 }

-- the first word of a table, and its length in words
abbrev place : Table → ℕ × ℕ
place table = (first_word_of ligature table, length_of ligature table)

place_of_characters : place CharInfo ≡ (8, 3)
place_of_characters = refl

place_of_kerns : place Kern ≡ (21, 2)
place_of_kerns = refl

place_of_parameters : place Param ≡ (23, 2)
place_of_parameters = refl

-- ---- design sizes

-- the design size of a font without characters, whose header[1] is this number
abbrev design : ℕ → Result ℕ DesignFault
design word = design_size_of (file (12 ∷ 2 ∷ 1 ∷ 0 ∷ 1 ∷ 1 ∷ 1 ∷ 1 ∷ 0 ∷ 0 ∷ 0 ∷ 0 ∷ []) (0 ∷ word ∷ 0 ∷ 0 ∷ 0 ∷ 0 ∷ []))

five_points : design 5242880 ≡ Ok 327680
five_points = refl

one_point : design 1048576 ≡ Ok 65536
one_point = refl

-- the word is 00 0F FF FF
below_one_point : design 1048575 ≡ Err DesignSize
below_one_point = refl

-- the word is 80 00 00 00
below_zero : design 2147483648 ≡ Err DesignSize
below_zero = refl
