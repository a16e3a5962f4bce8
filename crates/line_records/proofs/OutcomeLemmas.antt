-- The result of a line of bytes, without its items, is that of its outcome.
use Rattle.std.proofs.Common.{◌≡◌, ℕ, Bool, List, None, refl, ap, ◌∙◌, subst}
use Rattle.std.specs.Prelude.{Ok, Err}
use Rattle.lig_kern.specs.Result.{Setting}
use Rattle.set_line.specs.declared.outcome.LineRefusal.{LineRefusal}
use Rattle.set_line.specs.declared.outcome.Outcome.TheVariants.{Refused}
use Rattle.set_line.specs.declared.records.text_refusal.TextRefusal.{TextRefusal}
use Rattle.set_line.specs.declared.records.text_refusal.TextRefusal.TheVariants.{Line}
use Rattle.set_line.specs.Answer.{outcome_of, set_as}
use Rattle.set_line.specs.Terms.{TermsValue}
use Rattle.line_records.specs.declared.result.LineResult.{LineResult}
use Rattle.line_records.specs.declared.result.LineResult.TheVariants.{Set as SetResult, Refused as RefusedResult}
use Rattle.line_records.specs.Results.{IsOf, IsResult, line_result}
use Rattle.line_records.proofs.ResultLemmas.{of_bytes}

-- a refusal, and a setting
refused_is : (refusal : LineRefusal) (set : LineResult) → IsResult (Err (Line refusal)) set → IsOf (Refused refusal) set
refused_is refusal (SetResult sums) is = let bad : Err (Line refusal) ≡ Ok is.0 = is.1 in absurd (cc)
refused_is refusal (RefusedResult other) is =
    let same : Line refusal ≡ other = cc in subst (λ (r : TextRefusal). IsOf (Refused refusal) (RefusedResult r)) same refl

set_is : (setting : Setting) (set : LineResult) → IsResult (Ok setting) set → IsOf (set_as setting) set
set_is setting (RefusedResult refusal) is = absurd (cc)
set_is setting (SetResult sums) is =
    let ok : Ok setting ≡ Ok is.0 = is.1 in
    let same : setting ≡ is.0 = cc in
    (is.0.items, ap set_as same ∙ rw (is.2.width, is.2.steps) refl, is.2.items, is.2.skipped)

-- the result without items is that of the outcome
pub bytes_result : (terms : TermsValue) (first : Bool) (line : List ℕ) (set : LineResult) → IsResult (line_result terms None first line) set → IsOf (outcome_of terms line) set
bytes_result terms first line set =
    of_bytes terms first line (λ result outcome. IsResult result set → IsOf outcome set) (λ refusal. refused_is refusal set) (λ made. set_is made set)
