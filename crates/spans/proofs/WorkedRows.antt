-- Worked examples of places, computed from the definitions alone: a font as a list of bytes, spans, and their
-- items with their places.
use Rattle.std.proofs.Common.{◌≡◌, ℕ, pos, negsuc, Bool, true, false, [], ◌∷◌, ◌++◌, Option, Some, None, refl}
use Rattle.tfm_words.specs.Counts.{counts_of}
use Rattle.tfm_tables.specs.Table.{table_of, entry_at}
use Rattle.tfm_tables.specs.Character.{is_coded, char_info_of, exists}
use Rattle.tfm_tables.specs.Measure.{measure_of, kern_at}
use Rattle.tfm_tables.specs.Acceptance.{kern_index_of}
use Rattle.tfm_tables.specs.Program.{step_at, program_of, right_code_of, left_start_of, begin_at, start_of, chain_from, address_of, address_between}
use Rattle.tfm_tables.specs.Font.{FontValue}
use Rattle.lig_kern.specs.declared.item.Item.{Item}
use Rattle.lig_kern.specs.declared.item.Item.TheVariants.{Char, Kern}
use Rattle.lig_kern.specs.Matching.{match_of, operation_of, action_of, action_between}
use Rattle.lig_kern.specs.Rewriting.{right_end}
use Rattle.spans.specs.declared.span.Span.{Span}
use Rattle.spans.specs.declared.placed_item.PlacedItem.{PlacedItem}
use Rattle.lig_kern.specs.Places.{placed_run, placed_step, placed_after, placed_items, places_after}
use Rattle.spans.specs.Places.{places_of}

-- a font of size 10 pt with the characters a, b and c, which are 1/2, 1/4 and 3/4 of the size wide. Between a
-- and b there is the ligature operation `op`, which inserts c; between a and the right boundary, /LIG inserts
-- c; between c and b there is the instruction with op code `op'` and this remainder; between the left
-- boundary and c, /LIG/ inserts a. Kern 0 is -1/16 of the size
abbrev font_with : ℕ → ℕ → ℕ → FontValue
font_with op op' remainder = record {
  words =
      (0 ∷ 25 ∷ 0 ∷ 2 ∷ 0 ∷ 97 ∷ 0 ∷ 99 ∷ 0 ∷ 4 ∷ 0 ∷ 1 ∷ 0 ∷ 1 ∷ 0 ∷ 1 ∷ 0 ∷ 6 ∷ 0 ∷ 1 ∷ 0 ∷ 0 ∷ 0 ∷ 0 ∷ 0 ∷ 0 ∷ 0 ∷ 0 ∷ 0 ∷ 160 ∷ 0 ∷ 0 ∷ [])
      ++ (1 ∷ 0 ∷ 1 ∷ 1 ∷ 2 ∷ 0 ∷ 0 ∷ 0 ∷ 3 ∷ 0 ∷ 1 ∷ 3 ∷ [])
      ++ (0 ∷ 0 ∷ 0 ∷ 0 ∷ 0 ∷ 8 ∷ 0 ∷ 0 ∷ 0 ∷ 4 ∷ 0 ∷ 0 ∷ 0 ∷ 12 ∷ 0 ∷ 0 ∷ 0 ∷ 0 ∷ 0 ∷ 0 ∷ 0 ∷ 0 ∷ 0 ∷ 0 ∷ 0 ∷ 0 ∷ 0 ∷ 0 ∷ [])
      ++ (255 ∷ 124 ∷ 0 ∷ 0 ∷ 0 ∷ 98 ∷ op ∷ 99 ∷ 128 ∷ 124 ∷ 2 ∷ 99 ∷ 128 ∷ 98 ∷ op' ∷ remainder ∷ 128 ∷ 99 ∷ 3 ∷ 97 ∷ 255 ∷ 0 ∷ 0 ∷ 4 ∷ [])
      ++ (255 ∷ 255 ∷ 0 ∷ 0 ∷ []);
  size = 655360;
}

-- in it, a kern is between c and b
abbrev kerned : ℕ → FontValue
kerned op = font_with op 128 0

-- a span of two codes without edges, after one byte of the text
abbrev pair : Span
pair = record { offset = 1; length = 2; left = false; right = false; hyphen = None }

abbrev one_code : Bool → Bool → Option ℕ → Span
one_code left right hyphen = record { offset = 1; length = 1; left = left; right = right; hyphen = hyphen }

abbrev from : ℕ → ℕ → Item → PlacedItem
from start end item = record { item = item; place = record { start = start; end = end } }

abbrev a : Item
a = Char 97 (pos 327680)

abbrev b : Item
b = Char 98 (pos 163840)

abbrev c : Item
c = Char 99 (pos 491520)

abbrev kern : Item
kern = Kern (negsuc 40959)

-- LIG deletes both: c comes from both
of_both : places_of (kerned 0) (98 ∷ 97 ∷ 98 ∷ []) pair 1 ≡ Some (from 1 3 c ∷ [])
unfolding counts_of table_of entry_at is_coded char_info_of exists measure_of kern_at kern_index_of step_at program_of right_code_of left_start_of begin_at start_of chain_from address_of address_between match_of operation_of action_of action_between right_end placed_run placed_step placed_after placed_items places_after
of_both = refl

-- as ff and ffi: LIG twice, and one item from three bytes
of_three : places_of (font_with 0 0 97) (97 ∷ 98 ∷ 98 ∷ []) (record { offset = 0; length = 3; left = false; right = false; hyphen = None }) 2 ≡ Some (from 0 3 a ∷ [])
unfolding counts_of table_of entry_at is_coded char_info_of exists measure_of kern_at kern_index_of step_at program_of right_code_of left_start_of begin_at start_of chain_from address_of address_between match_of operation_of action_of action_between right_end placed_run placed_step placed_after placed_items places_after
of_three = refl

-- LIG/ keeps b, which has its place: c comes from a, and the kern is before b
of_the_left_one : places_of (kerned 1) (98 ∷ 97 ∷ 98 ∷ []) pair 2 ≡ Some (from 1 2 c ∷ from 2 2 kern ∷ from 2 3 b ∷ [])
unfolding counts_of table_of entry_at is_coded char_info_of exists measure_of kern_at kern_index_of step_at program_of right_code_of left_start_of begin_at start_of chain_from address_of address_between match_of operation_of action_of action_between right_end placed_run placed_step placed_after placed_items places_after
of_the_left_one = refl

-- /LIG keeps a: c comes from b
of_the_right_one : places_of (kerned 2) (98 ∷ 97 ∷ 98 ∷ []) pair 2 ≡ Some (from 1 2 a ∷ from 2 3 c ∷ [])
unfolding counts_of table_of entry_at is_coded char_info_of exists measure_of kern_at kern_index_of step_at program_of right_code_of left_start_of begin_at start_of chain_from address_of address_between match_of operation_of action_of action_between right_end placed_run placed_step placed_after placed_items places_after
of_the_right_one = refl

-- /LIG/> keeps both: c comes from no byte, before b
of_none : places_of (kerned 7) (98 ∷ 97 ∷ 98 ∷ []) pair 2 ≡ Some (from 1 2 a ∷ from 2 2 c ∷ from 2 2 kern ∷ from 2 3 b ∷ [])
unfolding counts_of table_of entry_at is_coded char_info_of exists measure_of kern_at kern_index_of step_at program_of right_code_of left_start_of begin_at start_of chain_from address_of address_between match_of operation_of action_of action_between right_end placed_run placed_step placed_after placed_items places_after
of_none = refl

-- the hyphen, which is b, comes from no byte, so the ligature comes from a alone
of_the_hyphen : places_of (kerned 0) (98 ∷ 97 ∷ []) (one_code false false (Some 98)) 1 ≡ Some (from 1 2 c ∷ [])
unfolding counts_of table_of entry_at is_coded char_info_of exists measure_of kern_at kern_index_of step_at program_of right_code_of left_start_of begin_at start_of chain_from address_of address_between match_of operation_of action_of action_between right_end placed_run placed_step placed_after placed_items places_after
of_the_hyphen = refl

-- a hyphen that stays is at the end
hyphen_at_the_end : places_of (kerned 0) (98 ∷ 98 ∷ []) (one_code false false (Some 97)) 1 ≡ Some (from 1 2 b ∷ from 2 2 a ∷ [])
unfolding counts_of table_of entry_at is_coded char_info_of exists measure_of kern_at kern_index_of step_at program_of right_code_of left_start_of begin_at start_of chain_from address_of address_between match_of operation_of action_of action_between right_end placed_run placed_step placed_after placed_items places_after
hyphen_at_the_end = refl

-- /LIG/ at the left boundary: the inserted a is before c
of_the_left_boundary : places_of (kerned 0) (98 ∷ 99 ∷ []) (one_code true false None) 3 ≡ Some (from 1 1 a ∷ from 1 2 c ∷ [])
unfolding counts_of table_of entry_at is_coded char_info_of exists measure_of kern_at kern_index_of step_at program_of right_code_of left_start_of begin_at start_of chain_from address_of address_between match_of operation_of action_of action_between right_end placed_run placed_step placed_after placed_items places_after
of_the_left_boundary = refl

-- without that edge there is no ligature
without_the_left_boundary : places_of (kerned 0) (98 ∷ 99 ∷ []) (one_code false false None) 0 ≡ Some (from 1 2 c ∷ [])
unfolding counts_of table_of entry_at is_coded char_info_of exists measure_of kern_at kern_index_of step_at program_of right_code_of left_start_of begin_at start_of chain_from address_of address_between match_of operation_of action_of action_between right_end placed_run placed_step placed_after placed_items places_after
without_the_left_boundary = refl

-- /LIG deletes the right boundary: the inserted c is at the end
of_the_right_boundary : places_of (kerned 0) (98 ∷ 97 ∷ []) (one_code false true None) 2 ≡ Some (from 1 2 a ∷ from 2 2 c ∷ [])
unfolding counts_of table_of entry_at is_coded char_info_of exists measure_of kern_at kern_index_of step_at program_of right_code_of left_start_of begin_at start_of chain_from address_of address_between match_of operation_of action_of action_between right_end placed_run placed_step placed_after placed_items places_after
of_the_right_boundary = refl
