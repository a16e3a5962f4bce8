-- The options of a call that sets lines, and the results of its lines with them.
-- This project's own; the result of a line is defined in Answer of `set_line`, and in Results of `line_records`.
use Rattle.std.specs.Prelude.{◌≡◌, ℕ, ◌-◌, ◌^◌, ◌<◌, ◌==◌, ◌⊎◌, Bool, List, [], ◌∷◌, Option, None, Result, Ok, Err, if◌then◌else◌}
use Rattle.run_plan.specs.declared.policy.Policy.{Policy}
use Rattle.run_plan.specs.declared.policy.Policy.TheVariants.{Refuse, Skip}
use Rattle.encodings.specs.declared.encoding.Encoding.{Encoding}
use Rattle.lig_kern.specs.Result.{Setting}
use Rattle.line_records.specs.Results.{line_result}
use Rattle.set_line.specs.declared.outcome.LineRefusal.TheVariants.{TooLong, Missing, Steps}
use Rattle.set_line.specs.declared.outcome.Outcome.{Outcome}
use Rattle.set_line.specs.declared.outcome.Outcome.TheVariants.{Set, Refused}
use Rattle.set_line.specs.declared.records.text_refusal.TextRefusal.{TextRefusal}
use Rattle.set_line.specs.declared.records.text_refusal.TextRefusal.TheVariants.{Line, NotUtf8, Uncoded}
use Rattle.set_line.specs.Answer.{outcome_of}
use Rattle.set_line.specs.Returns.{lines_in}
use Rattle.set_line.specs.Terms.{TermsValue}
use Rattle.tfm_tables.specs.Acceptance.{font_fault_of}
use Rattle.tfmset_c.specs.Reading.{IsNoSize, font_at}
use Rattle.tfmset_c.specs.declared.options.Settings.{Settings}
use Rattle.tfmset_c.specs.declared.options.Text.{Text}
use Rattle.tfmset_c.specs.declared.options.TfmsetOptions.{TfmsetOptions}

-- an option is out of range
abbrev pub IsOutOfRange : TfmsetOptions → Type 0
IsOutOfRange options =
    IsNoSize options.size ⊎ ((16777216 < options.limit) ⊎ ((1 < options.policy) ⊎ (1 < options.crlf)))

-- the limit that a number states: 0 is 1,048,576
unfoldable pub limit_of : ℕ → ℕ
limit_of n = if n == 0 then 1048576 else n

-- the call limit that a number states: 0 is 2^64 - 1
unfoldable pub call_limit_of : ℕ → ℕ
call_limit_of n = if n == 0 then 2 ^ 64 - 1 else n

-- the missing-character policy with this number: 0 refuses the line, and any other number skips the byte
unfoldable pub policy_of : ℕ → Policy
policy_of n = if n == 0 then Refuse else Skip

-- options in range, with the values that zeros stand for
pub record IsReadAs (options : TfmsetOptions) (settings : Settings) : Type 0 where
  pub size : settings.size ≡ options.size
  pub limit : settings.limit ≡ limit_of options.limit
  pub policy : settings.policy ≡ policy_of options.policy
  pub call_limit : settings.call_limit ≡ call_limit_of options.call_limit
  pub crlf : settings.crlf ≡ (options.crlf == 1)

-- the font in these bytes, with a limit and a policy
abbrev pub terms_with : List ℕ → ℕ → ℕ → Policy → TermsValue
terms_with bytes size limit policy = record { font = font_at bytes size; limit = limit; policy = policy }

-- the font in these bytes is accepted, and these are the settings of a line with it
pub record IsSetWith (bytes : List ℕ) (settings : Settings) (terms : TermsValue) : Type 0 where
  pub accepted : font_fault_of bytes ≡ None
  pub value : terms ≡ terms_with bytes settings.size settings.limit settings.policy

-- the settings of a line with the font in these bytes and these options
unfoldable pub terms_at : List ℕ → TfmsetOptions → TermsValue
terms_at bytes options = terms_with bytes options.size (limit_of options.limit) (policy_of options.policy)

-- ---- the lines of a call, which share the steps of the call limit

-- the steps that a line takes from the call limit; one that takes too many takes as many as its limit
abbrev pub steps_in : Result Setting TextRefusal → ℕ
steps_in (Ok setting) = setting.steps
steps_in (Err (Line (Steps limit))) = limit
steps_in (Err (Line (TooLong bytes))) = 0
steps_in (Err (Line (Missing offset code))) = 0
steps_in (Err (NotUtf8 offset)) = 0
steps_in (Err (Uncoded offset character)) = 0

-- the same of a line of bytes
abbrev pub steps_of : Outcome → ℕ
steps_of (Set items width steps) = steps
steps_of (Refused (Steps limit)) = limit
steps_of (Refused (TooLong bytes)) = 0
steps_of (Refused (Missing offset code)) = 0

-- the result of a line of which this many steps are left for the call: if none is left, it is refused, and isn't set
unfoldable pub outcome_within : TermsValue → ℕ → List ℕ → Outcome
outcome_within terms left line = if left == 0 then Refused (Steps 0) else outcome_of terms line

-- the same of a line of bytes or in UTF-8
unfoldable pub result_within : TermsValue → Option Encoding → Bool → ℕ → List ℕ → Result Setting TextRefusal
result_within terms encoding first left line =
    if left == 0 then Err (Line (Steps 0)) else line_result terms encoding first line

-- the results of lines, in order: each line takes its steps from those that are left for the call
unfoldable pub outcomes_within : TermsValue → ℕ → List (List ℕ) → List Outcome
outcomes_within terms left [] = []
outcomes_within terms left (line ∷ lines) =
    outcome_within terms left line ∷ outcomes_within terms (left - steps_of (outcome_within terms left line)) lines

-- the results of the lines of a text
abbrev pub outcomes_of : Text → List Outcome
outcomes_of text = outcomes_within text.terms.now text.call_limit (lines_in text.crlf text.bytes.now)

-- the lines of a text with these options
abbrev pub lines_at : TfmsetOptions → List ℕ → List (List ℕ)
lines_at options text = lines_in (options.crlf == 1) text

-- the results of the lines of a text with the font in these bytes and these options
unfoldable pub outcomes_at : List ℕ → TfmsetOptions → List ℕ → List Outcome
outcomes_at bytes options text =
    outcomes_within (terms_at bytes options) (call_limit_of options.call_limit) (lines_at options text)
