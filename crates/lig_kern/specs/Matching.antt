-- What the lig/kern program of a font does between two neighbours: the instruction that matches them, and its
-- action.
-- Public source: The METAFONTbook, Appendix F; tftopl.web, section 13; tex.web, sections 545, 557, 1039 and
-- 1040. An op code below 128 that isn't listed here means LIG: tftopl.web changes it to LIG, and tex.web
-- performs it as LIG.
use Rattle.std.specs.Prelude.{ℕ, ◌==◌, nat_le, Bool, true, false, List, [], ◌∷◌, Option, Some, None, unwrap_or, if◌then◌else◌}
use Rattle.std.specs.List.{find}
use Rattle.std.specs.Option.{option_and_then, option_map}
use Rattle.tfm_tables.specs.declared.step.Step.{Step}
use Rattle.tfm_tables.specs.declared.left_side.LeftSide.{LeftSide}
use Rattle.tfm_tables.specs.declared.left_side.LeftSide.TheVariants.{Boundary, Char as CharOnLeft}
use Rattle.tfm_tables.specs.Font.{FontValue}
use Rattle.tfm_tables.specs.Measure.{kern_at}
use Rattle.tfm_tables.specs.Acceptance.{kern_index_of}
use Rattle.tfm_tables.specs.Program.{program_of, step_at, right_code_of, address_between}
use Rattle.lig_kern.specs.declared.symbol.Symbol.{Symbol}
use Rattle.lig_kern.specs.declared.symbol.Symbol.TheVariants.{Left, Char, Right}
use Rattle.lig_kern.specs.declared.action.Action.{Action}
use Rattle.lig_kern.specs.declared.action.Action.TheVariants.{Kern, Lig}

-- a symbol as the left one of two neighbours; the right boundary is never the left one, because nothing
-- follows it
abbrev pub left_side_of : Symbol → Option LeftSide
left_side_of Left = Some Boundary
left_side_of (Char code) = Some (CharOnLeft code)
left_side_of Right = None

-- the code of a symbol as the right one of two neighbours: the left boundary has none, and the right boundary
-- has the code of the right boundary character, if the font has one
abbrev pub code_of : List ℕ → Symbol → Option ℕ
code_of words Left = None
code_of words (Char code) = Some code
code_of words Right = right_code_of (program_of words)

-- the address of the instruction that matches two neighbours: the first one in the chain of the left
-- neighbour's program that serves the code of the right neighbour
unfoldable pub match_of : List ℕ → Symbol → Symbol → Option ℕ
match_of words left right =
    option_and_then (λ side. option_and_then (address_between words side) (code_of words right)) (left_side_of left)

-- a ligature operation: its op code, whether the left and the right neighbour are kept, and how many
-- elements, from the left, the cursor passes over
pub record Operation : Type 0 where
  pub op : ℕ
  pub keep_left : Bool
  pub keep_right : Bool
  pub pass : ℕ

-- one row of the table of operations below
abbrev pub operation : ℕ → Bool → Bool → ℕ → Operation
operation op keep_left keep_right pass = record { op = op; keep_left = keep_left; keep_right = keep_right; pass = pass }

-- the operation LIG, which is also the meaning of every op code below 128 that isn't in the table
abbrev pub plain_ligature : Operation
plain_ligature = operation 0 false false 0

-- the eight operations: LIG, LIG/, /LIG, /LIG/, LIG/>, /LIG>, /LIG/>, /LIG/>>
abbrev pub operations : List Operation
operations =
    plain_ligature
    ∷ operation 1 false true 0
    ∷ operation 2 true false 0
    ∷ operation 3 true true 0
    ∷ operation 5 false true 1
    ∷ operation 6 true false 1
    ∷ operation 7 true true 1
    ∷ operation 11 true true 2
    ∷ []

-- the operation of an op code below 128
unfoldable pub operation_of : ℕ → Operation
operation_of op = unwrap_or (find (λ listed. listed.op == op) operations) plain_ligature

-- the action of an operation that inserts this character
abbrev pub ligature_by : Operation → ℕ → Action
ligature_by listed code = Lig code listed.keep_left listed.keep_right listed.pass

-- the action of an instruction: a kern if its op code is 128 or more, and a ligature otherwise
unfoldable pub action_of : FontValue → Step → Action
action_of font step =
    if nat_le 128 step.op
    then Kern (kern_at font.words font.size (kern_index_of step))
    else ligature_by (operation_of step.op) step.remainder

-- the action of the font's program between two neighbours, if an instruction matches them
unfoldable pub action_between : FontValue → Symbol → Symbol → Option Action
action_between font left right = option_map (λ address. action_of font (step_at font.words address)) (match_of font.words left right)
