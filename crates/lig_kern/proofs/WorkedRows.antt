-- Worked examples, computed from the definitions alone: fonts as lists of bytes, runs, and their results.
use Rattle.std.proofs.Common.{◌≡◌, ℕ, pos, negsuc, true, false, List, [], ◌∷◌, ◌++◌, Some, None, refl}
use Rattle.tfm_words.specs.Counts.{counts_of}
use Rattle.tfm_tables.specs.Table.{table_of, entry_at}
use Rattle.tfm_tables.specs.Character.{is_coded, char_info_of, exists}
use Rattle.tfm_tables.specs.Measure.{measure_of, kern_at}
use Rattle.tfm_tables.specs.Acceptance.{kern_index_of}
use Rattle.tfm_tables.specs.Program.{step_at, program_of, right_code_of, left_start_of, begin_at, start_of, chain_from, address_of, address_between}
use Rattle.tfm_tables.specs.Font.{FontValue}
use Rattle.lig_kern.specs.declared.item.Item.{Item}
use Rattle.lig_kern.specs.declared.item.Item.TheVariants.{Char, Kern}
use Rattle.lig_kern.specs.Matching.{match_of, operation_of, action_of, action_between}
use Rattle.lig_kern.specs.Rewriting.{opening, right_end, step_from, after_steps, items_of}
use Rattle.lig_kern.specs.Result.{result_after, result_from}

-- ---- the fonts, of size 10 pt, with the characters a, b and c

-- the twelve counts, of which lf (all words), nl (instructions) and nk (kerns) vary; then the check sum and
-- the design size
abbrev head : ℕ → ℕ → ℕ → List ℕ
head lf nl nk =
    0 ∷ lf ∷ 0 ∷ 2 ∷ 0 ∷ 97 ∷ 0 ∷ 99 ∷ 0 ∷ 4 ∷ 0 ∷ 1 ∷ 0 ∷ 1 ∷ 0 ∷ 1 ∷ 0 ∷ nl ∷ 0 ∷ nk ∷ 0 ∷ 0 ∷ 0 ∷ 2
    ∷ 0 ∷ 0 ∷ 0 ∷ 0 ∷ 0 ∷ 160 ∷ 0 ∷ 0 ∷ []

-- the widths 0, 1/2, 1/4 and 3/4 of the size; one height, one depth and one italic correction, all 0
abbrev measures : List ℕ
measures =
    0 ∷ 0 ∷ 0 ∷ 0 ∷ 0 ∷ 8 ∷ 0 ∷ 0 ∷ 0 ∷ 4 ∷ 0 ∷ 0 ∷ 0 ∷ 12 ∷ 0 ∷ 0
    ∷ 0 ∷ 0 ∷ 0 ∷ 0 ∷ 0 ∷ 0 ∷ 0 ∷ 0 ∷ 0 ∷ 0 ∷ 0 ∷ 0 ∷ []

-- a kern of -1/16 of the size (`back`), and a kern of 1/32 of the size (`ahead`)
abbrev back : List ℕ
back = 255 ∷ 255 ∷ 0 ∷ 0 ∷ []

abbrev ahead : List ℕ
ahead = 0 ∷ 0 ∷ 128 ∷ 0 ∷ []

-- the parameters: the slant 0, and a space of a third of the size
abbrev parameters : List ℕ
parameters = 0 ∷ 0 ∷ 0 ∷ 0 ∷ 0 ∷ 5 ∷ 85 ∷ 85 ∷ []

abbrev font_of : List ℕ → FontValue
font_of words = record { words = words; size = 655360 }

-- between a and b there is the ligature operation `op`, which inserts c; between a and c a kern back, and
-- between c and b a kern ahead
abbrev ligature_font : ℕ → FontValue
ligature_font op = font_of (
    head 25 3 2
    ++ (1 ∷ 0 ∷ 1 ∷ 0 ∷ 2 ∷ 0 ∷ 0 ∷ 0 ∷ 3 ∷ 0 ∷ 1 ∷ 2 ∷ [])
    ++ measures
    ++ (0 ∷ 98 ∷ op ∷ 99 ∷ 128 ∷ 99 ∷ 128 ∷ 0 ∷ 128 ∷ 98 ∷ 128 ∷ 1 ∷ [])
    ++ back ++ ahead ++ parameters)

-- the right boundary character is 124, which doesn't exist: after a the boundary is replaced with b, and
-- after b there is a kern ahead; between a and b there is a kern back
abbrev right_boundary_font : FontValue
right_boundary_font = font_of (
    head 26 4 2
    ++ (1 ∷ 0 ∷ 1 ∷ 1 ∷ 2 ∷ 0 ∷ 1 ∷ 3 ∷ 3 ∷ 0 ∷ 0 ∷ 0 ∷ [])
    ++ measures
    ++ (255 ∷ 124 ∷ 0 ∷ 0 ∷ 0 ∷ 124 ∷ 2 ∷ 98 ∷ 128 ∷ 98 ∷ 128 ∷ 0 ∷ 128 ∷ 124 ∷ 128 ∷ 1 ∷ [])
    ++ back ++ ahead ++ parameters)

-- between the left boundary and a there is a kern back; between the left boundary and b, c is inserted
abbrev left_boundary_font : FontValue
left_boundary_font = font_of (
    head 24 3 1
    ++ (1 ∷ 0 ∷ 0 ∷ 0 ∷ 2 ∷ 0 ∷ 0 ∷ 0 ∷ 3 ∷ 0 ∷ 0 ∷ 0 ∷ [])
    ++ measures
    ++ (0 ∷ 97 ∷ 128 ∷ 0 ∷ 128 ∷ 98 ∷ 3 ∷ 99 ∷ 255 ∷ 0 ∷ 0 ∷ 0 ∷ [])
    ++ back ++ parameters)

-- ---- the items

abbrev a : Item
a = Char 97 (pos 327680)

abbrev b : Item
b = Char 98 (pos 163840)

abbrev c : Item
c = Char 99 (pos 491520)

abbrev kern_back : Item
kern_back = Kern (negsuc 40959)

abbrev kern_ahead : Item
kern_ahead = Kern (pos 20480)

-- ---- the results

-- LIG: both are deleted, and c is current
ligature : result_after (ligature_font 0) (97 ∷ 98 ∷ []) true 2 ≡ Some (c ∷ [])
unfolding counts_of table_of entry_at is_coded char_info_of exists measure_of kern_at kern_index_of step_at program_of right_code_of left_start_of begin_at start_of chain_from address_of address_between match_of operation_of action_of action_between opening right_end step_from after_steps items_of result_from
ligature = refl

-- LIG/: b is kept, and c is current
ligature_keeps_the_right_one : result_after (ligature_font 1) (97 ∷ 98 ∷ []) true 3 ≡ Some (c ∷ kern_ahead ∷ b ∷ [])
unfolding counts_of table_of entry_at is_coded char_info_of exists measure_of kern_at kern_index_of step_at program_of right_code_of left_start_of begin_at start_of chain_from address_of address_between match_of operation_of action_of action_between opening right_end step_from after_steps items_of result_from
ligature_keeps_the_right_one = refl

-- /LIG: a is kept and is current
ligature_keeps_the_left_one : result_after (ligature_font 2) (97 ∷ 98 ∷ []) true 3 ≡ Some (a ∷ kern_back ∷ c ∷ [])
unfolding counts_of table_of entry_at is_coded char_info_of exists measure_of kern_at kern_index_of step_at program_of right_code_of left_start_of begin_at start_of chain_from address_of address_between match_of operation_of action_of action_between opening right_end step_from after_steps items_of result_from
ligature_keeps_the_left_one = refl

-- /LIG/: both are kept, and a is current
ligature_keeps_both : result_after (ligature_font 3) (97 ∷ 98 ∷ []) true 4 ≡ Some (a ∷ kern_back ∷ c ∷ kern_ahead ∷ b ∷ [])
unfolding counts_of table_of entry_at is_coded char_info_of exists measure_of kern_at kern_index_of step_at program_of right_code_of left_start_of begin_at start_of chain_from address_of address_between match_of operation_of action_of action_between opening right_end step_from after_steps items_of result_from
ligature_keeps_both = refl

-- LIG/>: b is kept and is current
ligature_passes_to_the_right_one : result_after (ligature_font 5) (97 ∷ 98 ∷ []) true 2 ≡ Some (c ∷ b ∷ [])
unfolding counts_of table_of entry_at is_coded char_info_of exists measure_of kern_at kern_index_of step_at program_of right_code_of left_start_of begin_at start_of chain_from address_of address_between match_of operation_of action_of action_between opening right_end step_from after_steps items_of result_from
ligature_passes_to_the_right_one = refl

-- /LIG>: a is kept, and c is current
ligature_passes_the_left_one : result_after (ligature_font 6) (97 ∷ 98 ∷ []) true 2 ≡ Some (a ∷ c ∷ [])
unfolding counts_of table_of entry_at is_coded char_info_of exists measure_of kern_at kern_index_of step_at program_of right_code_of left_start_of begin_at start_of chain_from address_of address_between match_of operation_of action_of action_between opening right_end step_from after_steps items_of result_from
ligature_passes_the_left_one = refl

-- /LIG/>: both are kept, and c is current
ligature_passes_one : result_after (ligature_font 7) (97 ∷ 98 ∷ []) true 3 ≡ Some (a ∷ c ∷ kern_ahead ∷ b ∷ [])
unfolding counts_of table_of entry_at is_coded char_info_of exists measure_of kern_at kern_index_of step_at program_of right_code_of left_start_of begin_at start_of chain_from address_of address_between match_of operation_of action_of action_between opening right_end step_from after_steps items_of result_from
ligature_passes_one = refl

-- /LIG/>>: both are kept, and b is current
ligature_passes_two : result_after (ligature_font 11) (97 ∷ 98 ∷ []) true 2 ≡ Some (a ∷ c ∷ b ∷ [])
unfolding counts_of table_of entry_at is_coded char_info_of exists measure_of kern_at kern_index_of step_at program_of right_code_of left_start_of begin_at start_of chain_from address_of address_between match_of operation_of action_of action_between opening right_end step_from after_steps items_of result_from
ligature_passes_two = refl

-- an op code that isn't listed means LIG
unlisted_code : result_after (ligature_font 127) (97 ∷ 98 ∷ []) true 2 ≡ Some (c ∷ [])
unfolding counts_of table_of entry_at is_coded char_info_of exists measure_of kern_at kern_index_of step_at program_of right_code_of left_start_of begin_at start_of chain_from address_of address_between match_of operation_of action_of action_between opening right_end step_from after_steps items_of result_from
unlisted_code = refl

-- with one step fewer no final configuration is reached
not_before : result_after (ligature_font 3) (97 ∷ 98 ∷ []) true 3 ≡ None
unfolding counts_of table_of entry_at is_coded char_info_of exists measure_of kern_at kern_index_of step_at program_of right_code_of left_start_of begin_at start_of chain_from address_of address_between match_of operation_of action_of action_between opening right_end step_from after_steps items_of result_from
not_before = refl

-- one step more can't be made
not_after : result_after (ligature_font 3) (97 ∷ 98 ∷ []) true 5 ≡ None
unfolding counts_of table_of entry_at is_coded char_info_of exists measure_of kern_at kern_index_of step_at program_of right_code_of left_start_of begin_at start_of chain_from address_of address_between match_of operation_of action_of action_between opening right_end step_from after_steps items_of result_from
not_after = refl

-- a right boundary that was replaced doesn't come back
boundary_replaced : result_after right_boundary_font (97 ∷ []) true 3 ≡ Some (a ∷ kern_back ∷ b ∷ [])
unfolding counts_of table_of entry_at is_coded char_info_of exists measure_of kern_at kern_index_of step_at program_of right_code_of left_start_of begin_at start_of chain_from address_of address_between match_of operation_of action_of action_between opening right_end step_from after_steps items_of result_from
boundary_replaced = refl

-- a kern before the right boundary is the last item
boundary_kern : result_after right_boundary_font (98 ∷ []) true 2 ≡ Some (b ∷ kern_ahead ∷ [])
unfolding counts_of table_of entry_at is_coded char_info_of exists measure_of kern_at kern_index_of step_at program_of right_code_of left_start_of begin_at start_of chain_from address_of address_between match_of operation_of action_of action_between opening right_end step_from after_steps items_of result_from
boundary_kern = refl

-- only the last character is next to the right boundary
boundary_replaced_later : result_after right_boundary_font (97 ∷ 97 ∷ []) true 4 ≡ Some (a ∷ a ∷ kern_back ∷ b ∷ [])
unfolding counts_of table_of entry_at is_coded char_info_of exists measure_of kern_at kern_index_of step_at program_of right_code_of left_start_of begin_at start_of chain_from address_of address_between match_of operation_of action_of action_between opening right_end step_from after_steps items_of result_from
boundary_replaced_later = refl

-- without the right boundary no instruction applies after the last character
no_right_boundary : result_after right_boundary_font (97 ∷ []) false 1 ≡ Some (a ∷ [])
unfolding counts_of table_of entry_at is_coded char_info_of exists measure_of kern_at kern_index_of step_at program_of right_code_of left_start_of begin_at start_of chain_from address_of address_between match_of operation_of action_of action_between opening right_end step_from after_steps items_of result_from
no_right_boundary = refl

-- a kern after the left boundary is the first item
kern_after_left_boundary : result_after left_boundary_font (97 ∷ []) true 1 ≡ Some (kern_back ∷ a ∷ [])
unfolding counts_of table_of entry_at is_coded char_info_of exists measure_of kern_at kern_index_of step_at program_of right_code_of left_start_of begin_at start_of chain_from address_of address_between match_of operation_of action_of action_between opening right_end step_from after_steps items_of result_from
kern_after_left_boundary = refl

-- a ligature after the left boundary keeps the boundary
ligature_after_left_boundary : result_after left_boundary_font (98 ∷ []) true 3 ≡ Some (c ∷ b ∷ [])
unfolding counts_of table_of entry_at is_coded char_info_of exists measure_of kern_at kern_index_of step_at program_of right_code_of left_start_of begin_at start_of chain_from address_of address_between match_of operation_of action_of action_between opening right_end step_from after_steps items_of result_from
ligature_after_left_boundary = refl
