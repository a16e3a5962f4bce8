-- The result of a line: the first that applies of too long, missing character, set and too many steps.
-- This project's own; the result of a run is that of The METAFONTbook, Appendix F.
use Rattle.std.specs.Prelude.{◌≡◌, ℕ, nat_lt, nat_le, Bool, false, List, [], ◌∷◌, length, map, flat_map, sum_by, slice_index, Option, Some, None, if◌then◌else◌}
use Rattle.std.specs.List.{list_any, position}
use Rattle.std.specs.Option.{option_and_then, option_map, option_map_or}
use Rattle.run_plan.specs.declared.policy.Policy.{Policy}
use Rattle.run_plan.specs.declared.policy.Policy.TheVariants.{Refuse, Skip}
use Rattle.tfm_tables.specs.Font.{FontValue}
use Rattle.tfm_tables.specs.Measure.{parameter_of}
use Rattle.lig_kern.specs.declared.item.Item.{Item}
use Rattle.lig_kern.specs.declared.item.Item.TheVariants.{Space, Skipped}
use Rattle.lig_kern.specs.Result.{Setting, result_of}
use Rattle.set_line.specs.declared.outcome.LineRefusal.{LineRefusal}
use Rattle.set_line.specs.declared.outcome.LineRefusal.TheVariants.{TooLong, Missing, Steps}
use Rattle.set_line.specs.declared.outcome.Outcome.{Outcome}
use Rattle.set_line.specs.declared.outcome.Outcome.TheVariants.{Set, Refused}
use Rattle.set_line.specs.Terms.{TermsValue}
use Rattle.set_line.specs.Pieces.{Portion, run, space, skipped, is_neither, portions_of}
use Rattle.set_line.specs.Width.{total_width}

-- an answer: the settings, the line and its result
pub record AnswerValue : Type 0 where
  pub terms : TermsValue
  pub line : List ℕ
  pub outcome : Outcome

-- ---- the refusals that come first

-- whether a byte is refused: it is neither a space nor a character, and missing characters are refused
abbrev pub is_refused : Policy → FontValue → ℕ → Bool
is_refused Refuse font byte = is_neither font byte
is_refused Skip font byte = false

-- whether a line has a byte that is refused
abbrev pub has_refused : Policy → FontValue → List ℕ → Bool
has_refused policy font line = list_any (is_refused policy font) line

-- the refusal for the first byte that is refused
abbrev pub missing_in : Policy → FontValue → List ℕ → Option LineRefusal
missing_in policy font line = option_map (λ i. Missing i (slice_index line i)) (position (is_refused policy font) line)

-- the refusal that is known before the line is set: for more than 65,535 bytes, whatever they are;
-- otherwise for a missing character
unfoldable pub refusal_of : TermsValue → List ℕ → Option LineRefusal
refusal_of terms line = if nat_lt 65535 (length line) then Some (TooLong (length line)) else missing_in terms.policy terms.font line

-- ---- the setting

-- one item, set without steps
abbrev pub plain_setting : Item → Option Setting
plain_setting item = Some (record { steps = 0; items = item ∷ [] })

-- the setting of a portion: the result of a run, if it has one within the limit; a space or a skipped byte
-- is one item
unfoldable pub setting_of : FontValue → ℕ → Portion → Option Setting
setting_of font limit (run codes right) = result_of font codes right limit
setting_of font limit space = plain_setting (Space (parameter_of font.words font.size 2))
setting_of font limit (skipped code) = plain_setting (Skipped code)

-- all settings, if there is none without a value
abbrev pub all_of : List (Option Setting) → Option (List Setting)
all_of [] = Some []
all_of (setting ∷ settings) = option_and_then (λ one. option_map (λ more. one ∷ more) (all_of settings)) setting

-- several settings as one: the sum of their steps, and their items in order
abbrev pub together : List Setting → Setting
together settings = record { steps = sum_by (λ setting. setting.steps) settings; items = flat_map (λ setting. setting.items) settings }

-- the setting, if it takes no more steps than the limit
abbrev pub within_limit : ℕ → Setting → Option Setting
within_limit limit setting = if nat_le setting.steps limit then Some setting else None

-- the setting of all portions, if every run has a result and they take no more steps than the limit
-- together; a run that takes more steps than the limit alone has no result within it
unfoldable pub setting_of_portions : FontValue → ℕ → List Portion → Option Setting
setting_of_portions font limit portions =
    option_and_then (λ settings. within_limit limit (together settings)) (all_of (map (setting_of font limit) portions))

-- ---- the outcome

-- the result of a line with this setting: its items, width and steps
abbrev pub set_as : Setting → Outcome
set_as setting = Set setting.items (total_width setting.items) setting.steps

-- the result of a line that isn't refused before it is set: it is set, or takes too many steps
abbrev pub set_or_refused : TermsValue → List ℕ → Outcome
set_or_refused terms line =
    option_map_or set_as (setting_of_portions terms.font terms.limit (portions_of terms.font line)) (Refused (Steps terms.limit))

-- the result of a line
unfoldable pub outcome_of : TermsValue → List ℕ → Outcome
outcome_of terms line = option_map_or Refused (refusal_of terms line) (set_or_refused terms line)

-- the answer to a line: the settings, the line and its result
abbrev pub answer_of : TermsValue → List ℕ → AnswerValue
answer_of terms line = record { terms = terms; line = line; outcome = outcome_of terms line }

-- the answers to lines with these settings
abbrev pub answers_of : TermsValue → List (List ℕ) → List AnswerValue
answers_of terms lines = map (answer_of terms) lines

-- the result in an answer is the defined one for its settings and its line
abbrev pub IsRight : AnswerValue → Type 0
IsRight answer = answer.outcome ≡ outcome_of answer.terms answer.line

-- the items of a line that was set, or other items for a refused line
unfoldable pub items_or : List Item → Outcome → List Item
items_or other (Set items width steps) = items
items_or other (Refused refusal) = other
