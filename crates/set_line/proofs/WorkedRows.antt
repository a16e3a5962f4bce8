-- Worked examples, computed on the definitions alone: lines, what they come to, and their records.
use Rattle.std.proofs.Common.{◌≡◌, ℕ, pos, negsuc, List, [], ◌∷◌, ◌++◌, refl}
use Rattle.std.specs.Fmt.{digits}
use Rattle.run_plan.specs.declared.policy.Policy.{Policy}
use Rattle.run_plan.specs.declared.policy.Policy.TheVariants.{Refuse, Skip}
use Rattle.tfm_words.specs.Counts.{counts_of}
use Rattle.tfm_tables.specs.Table.{table_of, entry_at}
use Rattle.tfm_tables.specs.Character.{is_coded, char_info_of, exists}
use Rattle.tfm_tables.specs.Measure.{measure_of, kern_at, parameter_of}
use Rattle.tfm_tables.specs.Acceptance.{kern_index_of}
use Rattle.tfm_tables.specs.Program.{step_at, program_of, right_code_of, left_start_of, begin_at, start_of, chain_from, address_of, address_between}
use Rattle.lig_kern.specs.declared.item.Item.{Item}
use Rattle.lig_kern.specs.declared.item.Item.TheVariants.{Char, Kern, Space, Skipped}
use Rattle.lig_kern.specs.Matching.{match_of, operation_of, action_of, action_between}
use Rattle.lig_kern.specs.Rewriting.{opening, right_end, step_from, after_steps, items_of}
use Rattle.lig_kern.specs.Result.{result_from, result_within}
use Rattle.set_line.specs.declared.outcome.LineRefusal.TheVariants.{Missing, Steps}
use Rattle.set_line.specs.declared.outcome.Outcome.TheVariants.{Set, Refused}
use Rattle.set_line.specs.Terms.{TermsValue}
use Rattle.set_line.specs.Pieces.{pieces_of, portions_in}
use Rattle.set_line.specs.Answer.{refusal_of, setting_of, setting_of_portions, outcome_of}
use Rattle.set_line.specs.Lines.{lines_of}

-- ---- the fonts: of 10 points, with the characters a, b and c and a space of a third of the size

-- twelve counts, of which the first, the ninth and the tenth vary: all words, instructions and kerns; then the header
abbrev head : ℕ → ℕ → ℕ → List ℕ
head lf nl nk =
    0 ∷ lf ∷ 0 ∷ 2 ∷ 0 ∷ 97 ∷ 0 ∷ 99 ∷ 0 ∷ 4 ∷ 0 ∷ 1 ∷ 0 ∷ 1 ∷ 0 ∷ 1 ∷ 0 ∷ nl ∷ 0 ∷ nk ∷ 0 ∷ 0 ∷ 0 ∷ 2
    ∷ 0 ∷ 0 ∷ 0 ∷ 0 ∷ 0 ∷ 160 ∷ 0 ∷ 0 ∷ []

-- the widths 0, a half, a quarter and three quarters of the size, and one height, depth and italic correction
abbrev measures : List ℕ
measures =
    0 ∷ 0 ∷ 0 ∷ 0 ∷ 0 ∷ 8 ∷ 0 ∷ 0 ∷ 0 ∷ 4 ∷ 0 ∷ 0 ∷ 0 ∷ 12 ∷ 0 ∷ 0
    ∷ 0 ∷ 0 ∷ 0 ∷ 0 ∷ 0 ∷ 0 ∷ 0 ∷ 0 ∷ 0 ∷ 0 ∷ 0 ∷ 0 ∷ []

abbrev parameters : List ℕ
parameters = 0 ∷ 0 ∷ 0 ∷ 0 ∷ 0 ∷ 5 ∷ 85 ∷ 85 ∷ []

abbrev terms_of : List ℕ → ℕ → Policy → TermsValue
terms_of words limit policy = record { font = record { words = words; size = 655360 }; limit = limit; policy = policy }

-- no program
abbrev plain_font : List ℕ
plain_font = head 20 0 0 ++ (1 ∷ 0 ∷ 0 ∷ 0 ∷ 2 ∷ 0 ∷ 0 ∷ 0 ∷ 3 ∷ 0 ∷ 0 ∷ 0 ∷ []) ++ measures ++ parameters

-- the right boundary character is 124, which doesn't exist: after a it becomes b, after b comes a kern ahead; between a and
-- b stands a kern back
abbrev right_boundary_font : List ℕ
right_boundary_font =
    head 26 4 2
    ++ (1 ∷ 0 ∷ 1 ∷ 1 ∷ 2 ∷ 0 ∷ 1 ∷ 3 ∷ 3 ∷ 0 ∷ 0 ∷ 0 ∷ [])
    ++ measures
    ++ (255 ∷ 124 ∷ 0 ∷ 0 ∷ 0 ∷ 124 ∷ 2 ∷ 98 ∷ 128 ∷ 98 ∷ 128 ∷ 0 ∷ 128 ∷ 124 ∷ 128 ∷ 1 ∷ [])
    ++ (255 ∷ 255 ∷ 0 ∷ 0 ∷ 0 ∷ 0 ∷ 128 ∷ 0 ∷ []) ++ parameters

-- ---- the items

abbrev a : Item
a = Char 97 (pos 327680)

abbrev b : Item
b = Char 98 (pos 163840)

abbrev c : Item
c = Char 99 (pos 491520)

abbrev space : Item
space = Space (pos 218453)

abbrev kern_back : Item
kern_back = Kern (negsuc 40959)

abbrev kern_ahead : Item
kern_ahead = Kern (pos 20480)

-- ---- what they come to

-- the steps of both words together are just the limit
two_words : outcome_of (terms_of plain_font 5 Refuse) (97 ∷ 98 ∷ 32 ∷ 97 ∷ 98 ∷ 99 ∷ []) ≡ Set (a ∷ b ∷ space ∷ a ∷ b ∷ c ∷ []) (pos 1693013) 5
unfolding counts_of table_of entry_at is_coded char_info_of exists measure_of kern_at parameter_of kern_index_of step_at program_of right_code_of left_start_of begin_at start_of chain_from address_of address_between match_of operation_of action_of action_between opening right_end step_from after_steps items_of result_from result_within pieces_of portions_in refusal_of setting_of setting_of_portions outcome_of lines_of digits
two_words = refl

-- and one more than the limit
one_step_more : outcome_of (terms_of plain_font 4 Refuse) (97 ∷ 98 ∷ 32 ∷ 97 ∷ 98 ∷ 99 ∷ []) ≡ Refused (Steps 4)
unfolding counts_of table_of entry_at is_coded char_info_of exists measure_of kern_at parameter_of kern_index_of step_at program_of right_code_of left_start_of begin_at start_of chain_from address_of address_between match_of operation_of action_of action_between opening right_end step_from after_steps items_of result_from result_within pieces_of portions_in refusal_of setting_of setting_of_portions outcome_of lines_of digits
one_step_more = refl

-- an empty line has no items
empty_line : outcome_of (terms_of plain_font 3 Refuse) ([]) ≡ Set [] (pos 0) 0
unfolding counts_of table_of entry_at is_coded char_info_of exists measure_of kern_at parameter_of kern_index_of step_at program_of right_code_of left_start_of begin_at start_of chain_from address_of address_between match_of operation_of action_of action_between opening right_end step_from after_steps items_of result_from result_within pieces_of portions_in refusal_of setting_of setting_of_portions outcome_of lines_of digits
empty_line = refl

-- two spaces separate three empty pieces
two_spaces : outcome_of (terms_of plain_font 3 Refuse) (32 ∷ 32 ∷ []) ≡ Set (space ∷ space ∷ []) (pos 436906) 0
unfolding counts_of table_of entry_at is_coded char_info_of exists measure_of kern_at parameter_of kern_index_of step_at program_of right_code_of left_start_of begin_at start_of chain_from address_of address_between match_of operation_of action_of action_between opening right_end step_from after_steps items_of result_from result_within pieces_of portions_in refusal_of setting_of setting_of_portions outcome_of lines_of digits
two_spaces = refl

-- the first byte that is no character
missing : outcome_of (terms_of plain_font 3 Refuse) (97 ∷ 100 ∷ 100 ∷ []) ≡ Refused (Missing 1 100)
unfolding counts_of table_of entry_at is_coded char_info_of exists measure_of kern_at parameter_of kern_index_of step_at program_of right_code_of left_start_of begin_at start_of chain_from address_of address_between match_of operation_of action_of action_between opening right_end step_from after_steps items_of result_from result_within pieces_of portions_in refusal_of setting_of setting_of_portions outcome_of lines_of digits
missing = refl

-- a skipped byte divides a line: no right boundary follows the run before it
skipped_in_the_middle : outcome_of (terms_of right_boundary_font 5 Skip) (97 ∷ 100 ∷ 98 ∷ []) ≡ Set (a ∷ Skipped 100 ∷ b ∷ kern_ahead ∷ []) (pos 512000) 3
unfolding counts_of table_of entry_at is_coded char_info_of exists measure_of kern_at parameter_of kern_index_of step_at program_of right_code_of left_start_of begin_at start_of chain_from address_of address_between match_of operation_of action_of action_between opening right_end step_from after_steps items_of result_from result_within pieces_of portions_in refusal_of setting_of setting_of_portions outcome_of lines_of digits
skipped_in_the_middle = refl

-- the right boundary doesn't follow the run at the end either, since the last piece is empty
skipped_at_the_end : outcome_of (terms_of right_boundary_font 5 Skip) (97 ∷ 100 ∷ []) ≡ Set (a ∷ Skipped 100 ∷ []) (pos 327680) 1
unfolding counts_of table_of entry_at is_coded char_info_of exists measure_of kern_at parameter_of kern_index_of step_at program_of right_code_of left_start_of begin_at start_of chain_from address_of address_between match_of operation_of action_of action_between opening right_end step_from after_steps items_of result_from result_within pieces_of portions_in refusal_of setting_of setting_of_portions outcome_of lines_of digits
skipped_at_the_end = refl

-- a piece of one skipped byte, a space, and a run whose boundary is replaced
skipped_alone : outcome_of (terms_of right_boundary_font 5 Skip) (100 ∷ 32 ∷ 97 ∷ []) ≡ Set (Skipped 100 ∷ space ∷ a ∷ kern_back ∷ b ∷ []) (pos 669013) 3
unfolding counts_of table_of entry_at is_coded char_info_of exists measure_of kern_at parameter_of kern_index_of step_at program_of right_code_of left_start_of begin_at start_of chain_from address_of address_between match_of operation_of action_of action_between opening right_end step_from after_steps items_of result_from result_within pieces_of portions_in refusal_of setting_of setting_of_portions outcome_of lines_of digits
skipped_alone = refl

-- a byte that is the right boundary's code is skipped like any other
skipped_boundary_code : outcome_of (terms_of right_boundary_font 5 Skip) (97 ∷ 124 ∷ 98 ∷ []) ≡ Set (a ∷ Skipped 124 ∷ b ∷ kern_ahead ∷ []) (pos 512000) 3
unfolding counts_of table_of entry_at is_coded char_info_of exists measure_of kern_at parameter_of kern_index_of step_at program_of right_code_of left_start_of begin_at start_of chain_from address_of address_between match_of operation_of action_of action_between opening right_end step_from after_steps items_of result_from result_within pieces_of portions_in refusal_of setting_of setting_of_portions outcome_of lines_of digits
skipped_boundary_code = refl

-- ---- lines of a text

three_lines : lines_of (97 ∷ 98 ∷ 10 ∷ 10 ∷ 99 ∷ []) ≡ (97 ∷ 98 ∷ []) ∷ [] ∷ (99 ∷ []) ∷ []
unfolding counts_of table_of entry_at is_coded char_info_of exists measure_of kern_at parameter_of kern_index_of step_at program_of right_code_of left_start_of begin_at start_of chain_from address_of address_between match_of operation_of action_of action_between opening right_end step_from after_steps items_of result_from result_within pieces_of portions_in refusal_of setting_of setting_of_portions outcome_of lines_of digits
three_lines = refl

one_line : lines_of (97 ∷ 98 ∷ 10 ∷ []) ≡ (97 ∷ 98 ∷ []) ∷ []
unfolding counts_of table_of entry_at is_coded char_info_of exists measure_of kern_at parameter_of kern_index_of step_at program_of right_code_of left_start_of begin_at start_of chain_from address_of address_between match_of operation_of action_of action_between opening right_end step_from after_steps items_of result_from result_within pieces_of portions_in refusal_of setting_of setting_of_portions outcome_of lines_of digits
one_line = refl

no_line : lines_of [] ≡ []
unfolding counts_of table_of entry_at is_coded char_info_of exists measure_of kern_at parameter_of kern_index_of step_at program_of right_code_of left_start_of begin_at start_of chain_from address_of address_between match_of operation_of action_of action_between opening right_end step_from after_steps items_of result_from result_within pieces_of portions_in refusal_of setting_of setting_of_portions outcome_of lines_of digits
no_line = refl
