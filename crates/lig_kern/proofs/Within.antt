-- An operation passes over existing elements only.
use Rattle.std.proofs.Common.{ℕ, ◌+◌, ◌≤◌, ◌==◌, Bool, true, false, cond, List, [], ◌∷◌, Option, Some, None, IfSome, arith}
use Rattle.std.specs.Prelude.{nat_le, unwrap_or, if◌then◌else◌}
use Rattle.std.specs.List.{find}
use Rattle.std.specs.Option.{option_map}
use Rattle.tfm_tables.specs.declared.step.Step.{Step}
use Rattle.tfm_tables.specs.Font.{FontValue}
use Rattle.tfm_tables.specs.Measure.{kern_at}
use Rattle.tfm_tables.specs.Acceptance.{kern_index_of}
use Rattle.tfm_tables.specs.Program.{step_at}
use Rattle.lig_kern.specs.declared.symbol.Symbol.{Symbol}
use Rattle.lig_kern.specs.declared.action.Action.{Action}
use Rattle.lig_kern.specs.declared.action.Action.TheVariants.{Kern, Lig}
use Rattle.lig_kern.specs.Matching.{Operation, operations, operation_of, plain_ligature, ligature_by, action_of, action_between, match_of}

-- 1 for a neighbour that a ligature keeps, 0 for one that it deletes
abbrev pub bit : Bool → ℕ
bit true = 1
bit false = 0

-- a ligature passes over fewer elements than it puts in the place of the two neighbours
abbrev pub StaysWithin : Action → Type 0
StaysWithin (Kern amount) = Unit {0}
StaysWithin (Lig code keep_left keep_right pass) = pass ≤ bit keep_left + bit keep_right

abbrev pub IsWithin : Operation → Type 0
IsWithin operation = operation.pass ≤ bit operation.keep_left + bit operation.keep_right

abbrev AllWithin : List Operation → Type 0
AllWithin [] = Unit {0}
AllWithin (x ∷ xs) = IsWithin x × AllWithin xs

-- if every operation in a list passes over fewer elements than it leaves, so does the one that a search
-- finds, or LIG if it finds none
found_within : (p : Operation → Bool) (xs : List Operation) → AllWithin xs → IsWithin (unwrap_or (find p xs) plain_ligature)
found_within p [] each = omega arith
found_within p (x ∷ xs) each = by (p x) (found_within p xs each.1)
  where
    by : (b : Bool) → IsWithin (unwrap_or (find p xs) plain_ligature) → IsWithin (unwrap_or (cond b (Some x) (find p xs)) plain_ligature)
    by true rest = each.0
    by false rest = rest

operation_within : (op : ℕ) → IsWithin (operation_of op)
unfolding operation_of
operation_within op =
    found_within (λ listed. listed.op == op) operations
    (omega arith, (omega arith, (omega arith, (omega arith, (omega arith, (omega arith, (omega arith, (omega arith, tt))))))))

action_within : (font : FontValue) (step : Step) → StaysWithin (action_of font step)
unfolding action_of
action_within font step = by (nat_le 128 step.op)
  where
    by : (b : Bool) → StaysWithin (if b then Kern (kern_at font.words font.size (kern_index_of step)) else ligature_by (operation_of step.op) step.remainder)
    by true = tt
    by false = operation_within step.op

pub between_within : (font : FontValue) (left right : Symbol) → IfSome (action_between font left right) StaysWithin
unfolding action_between
between_within font left right = by (match_of font.words left right)
  where
    by : (address : Option ℕ) → IfSome (option_map (λ at. action_of font (step_at font.words at)) address) StaysWithin
    by None = tt
    by (Some at) = action_within font (step_at font.words at)
