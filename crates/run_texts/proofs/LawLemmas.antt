-- Laws of the output of a report.
use Rattle.std.proofs.Common.{◌≡◌, ℕ, ◌+◌, Bool, ◌||◌, List, [], ◌∷◌, None, count_by, map, refl, ap, sym, ◌∙◌}
use Rattle.std.proofs.Math.Bool.{cond}
use Rattle.std.specs.List.{list_any}
use Rattle.std.proofs.lemmas.List.Sums.{sum_by-cons}
use Rattle.set_line.specs.Answer.{AnswerValue}
use Rattle.line_records.specs.Results.{is_refusal}
use Rattle.run_texts.specs.RunText.{refused_from, refused_lines}

-- Law: of lines of bytes those are counted as refused whose results are refusals; the first line has this number
pub refused_of_bytes : (place : ℕ) (answers : List AnswerValue) → refused_from None place answers ≡ count_by (λ answer. is_refusal answer.outcome) answers
refused_of_bytes place [] = refl
refused_of_bytes place (answer ∷ answers) =
    ap (λ n. cond (is_refusal answer.outcome) 1 0 + n) (refused_of_bytes (place + 1) answers)
    ∙ sym (sum_by-cons (λ (a : AnswerValue). cond (is_refusal a.outcome) 1 0) answer answers)

-- Law: some value of a list passes a test if some element does whose value it is
pub any_mapped : {A B : Type 0} (test : B → Bool) (value : A → B) (xs : List A) → list_any test (map value xs) ≡ list_any (λ x. test (value x)) xs
any_mapped test value [] = refl
any_mapped test value (x ∷ xs) = ap (λ more. test (value x) || more) (any_mapped test value xs)

-- Law: the refused lines of a source of lines of bytes
pub refused_lines_of_bytes : (answers : List AnswerValue) → refused_lines None answers ≡ count_by (λ answer. is_refusal answer.outcome) answers
refused_lines_of_bytes answers = refused_of_bytes 1 answers

pub ruleset of_bytes = (refused_lines_of_bytes)
