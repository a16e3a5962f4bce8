-- The warnings of an accepted font, in the order of the file: at most one for each code, for each instruction
-- and for each piece of a recipe, and one for bytes after the last word. In a list of rows, each of a condition
-- and a warning, the first row whose condition holds gives the warning.
-- Public source: tex.web, sections 569, 570 and 574; tftopl.web, sections 20, 77 and 84. The order is this project's
-- own.
use Rattle.std.specs.Prelude.{ℕ, zero, suc, ◌*◌, ◌/◌, ◌%◌, ◌==◌, ◌&&◌, ◌||◌, nat_lt, nat_le, not, Bool, false, cond, List, [], ◌∷◌, ◌++◌, length, slice_index, Option, Some, None}
use Rattle.std.specs.List.{range_with_len, flat_map, list_any}
use Rattle.std.specs.Option.{option_and_then, option_map_or}
use Rattle.tfm_words.specs.declared.table.Table.TheVariants.{LigKern, Exten}
use Rattle.tfm_words.specs.CountFaults.{first_fault}
use Rattle.tfm_tables.specs.declared.step.Step.{Step}
use Rattle.tfm_tables.specs.Table.{entries_of, entry_at}
use Rattle.tfm_tables.specs.Character.{exists, is_coded, char_info_of, tag_number, remainder_of}
use Rattle.tfm_tables.specs.Program.{step_at}
use Rattle.tfm_tables.specs.Acceptance.{words_of}
use Rattle.lig_kern.specs.Matching.{operations}
use Rattle.check_texts.specs.declared.warning.Warning.{Warning}
use Rattle.check_texts.specs.declared.warning.Warning.TheVariants.{LargerOutside, Circle, LargerMissing, RecipeMissing, Operation, PieceMissing, ExtraBytes, Endless, EndlessAtLeft}

-- the list of the warning, if there is one
abbrev pub listed : Option Warning → List Warning
listed None = []
listed (Some warning) = warning ∷ []

-- whether there is a number, and it is this one
abbrev pub is_number : Option ℕ → ℕ → Bool
is_number found number = option_map_or (λ n. n == number) found false

-- whether one of n numbers from a upward passes a test
unfoldable pub any_from : (ℕ → Bool) → ℕ → ℕ → Bool
any_from test a n = list_any test (range_with_len a n)

-- the char_info word of a code; four zero bytes if the code isn't from bc to ec
unfoldable pub info_of : List ℕ → ℕ → List ℕ
info_of words code = cond (is_coded words code) (char_info_of words code) (0 ∷ 0 ∷ 0 ∷ 0 ∷ [])

-- the larger character of a code: its remainder if its tag number is 2, whether or not the characters exist
unfoldable pub larger_of : List ℕ → ℕ → Option ℕ
larger_of words code = cond (tag_number (info_of words code) == 2) (Some (remainder_of (info_of words code))) None

-- the code to which this many steps, each from a code to its larger character, lead from a code
abbrev pub larger_after : List ℕ → ℕ → ℕ → Option ℕ
larger_after words code zero = Some code
larger_after words code (suc steps) = option_and_then (larger_of words) (larger_after words code steps)

-- whether this many steps lead from a code back to it
abbrev pub leads_back : List ℕ → ℕ → ℕ → Bool
leads_back words code steps = is_number (larger_after words code steps) code

-- whether 1 to 256 steps, as many as there are codes, lead from a code back to it
unfoldable pub is_in_circle : List ℕ → ℕ → Bool
is_in_circle words code = any_from (leads_back words code) 1 256

-- the rows of a code with this char_info word: a larger character is a code from bc to ec, it doesn't lead back, and it
-- exists if the character exists; and a recipe exists
unfoldable pub code_rows : List ℕ → ℕ → List ℕ → List (Bool × Warning)
code_rows words code info =
    ((tag_number info == 2) && not (is_coded words (remainder_of info)), LargerOutside code (remainder_of info))
    ∷ (is_in_circle words code, Circle code)
    ∷ ((tag_number info == 2) && exists words code && not (exists words (remainder_of info)), LargerMissing code (remainder_of info))
    ∷ ((tag_number info == 3) && nat_le (entries_of words Exten) (remainder_of info), RecipeMissing code (remainder_of info))
    ∷ []

-- the warning of a code, if it has one
unfoldable pub code_warning : List ℕ → ℕ → Option Warning
code_warning words code = first_fault (code_rows words code (info_of words code))

-- whether an op code below 128 is that of an operation
abbrev pub is_operation : ℕ → Bool
is_operation op = list_any (λ operation. operation.op == op) operations

-- this instruction at address i, if its skip is at most 128, inserts a kern or has the op code of an operation
unfoldable pub step_rows : ℕ → Step → List (Bool × Warning)
step_rows i step = (nat_le step.skip 128 && nat_lt step.op 128 && not (is_operation step.op), Operation i step.op) ∷ []

-- the warning of the instruction at address i, if it has one
unfoldable pub step_warning : List ℕ → ℕ → Option Warning
step_warning words i = first_fault (step_rows i (step_at words i))

-- byte k of the recipes, which is piece k % 4 of recipe k / 4, is a character; the pieces 0, 1 and 2, for top, middle
-- and bottom, may be absent, which the byte 0 states
unfoldable pub piece_rows : List ℕ → ℕ → ℕ → List (Bool × Warning)
piece_rows words k code = (((k % 4 == 3) || not (code == 0)) && not (exists words code), PieceMissing (k / 4) code) ∷ []

-- the warning of byte k of the recipes, if it has one
unfoldable pub piece_warning : List ℕ → ℕ → Option Warning
piece_warning words k = first_fault (piece_rows words k (slice_index (entry_at words Exten (k / 4)) (k % 4)))

-- the warnings that n numbers from 0 upward have
unfoldable pub warnings_below : (ℕ → Option Warning) → ℕ → List Warning
warnings_below warning n = flat_map (λ i. listed (warning i)) (range_with_len 0 n)

-- the warnings of the tables of a font
unfoldable pub table_warnings : List ℕ → List Warning
table_warnings words =
    warnings_below (code_warning words) 256
    ++ warnings_below (step_warning words) (entries_of words LigKern)
    ++ warnings_below (piece_warning words) (4 * entries_of words Exten)

-- a file ends with the last word of its font
abbrev pub extra_warning : List ℕ → List ℕ → Option Warning
extra_warning bytes words = cond (nat_lt (length words) (length bytes)) (Some ExtraBytes) None

-- the warnings of a file with an accepted font, except that of a program that never ends
unfoldable pub warnings_of : List ℕ → List Warning
warnings_of bytes = table_warnings (words_of bytes) ++ listed (extra_warning bytes (words_of bytes))

-- the warnings of a pair for which the program never ends, if one was found: a code, or none for the left boundary,
-- and the code to its right
abbrev pub endless_warnings : Option (Option ℕ × ℕ) → List Warning
endless_warnings None = []
endless_warnings (Some (None, right)) = EndlessAtLeft right ∷ []
endless_warnings (Some (Some left, right)) = Endless left right ∷ []
