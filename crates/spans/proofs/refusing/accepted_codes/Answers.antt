use Rattle.std.proofs.Common.{get_or, arith, refl, sym, ◌∙◌}
use Rattle.spans.proofs.RefusalLemmas.{accepted_with, accepted_without, code_length, has_codes, missing_code, missing_hyphen, too_long}
use Rattle.spans.proofs.refusing.accepted_codes.Goals.{in_default-hyphen-via-in-Some-hyphen+else-not-exists, in_default-hyphen-via-in_default-hyphen}
use Rattle.spans.proofs.refusing.accepted_codes.Goals as goal

pub returns-then-codes-gt-MOST_CODES-clause-refusal : goal.returns-then-codes-gt-MOST_CODES-clause-refusal
returns-then-codes-gt-MOST_CODES-clause-refusal g c = λ value is.
    too_long value c.args.text.now c.args.span.now c.in-Some.ensures.1
    (omega (arith, c.if-codes-gt-MOST_CODES.true, code_length c.args.text.now c.args.span.now c.in-Some.codes.now c.in-Some.ensures.0 c.in-Some.ensures.1))

pub returns-in-Some-first_missing-clause-refusal : goal.returns-in-Some-first_missing-clause-refusal
returns-in-Some-first_missing-clause-refusal g c = λ value is.
    missing_code value c.args.text.now c.args.span.now c.in-Some.codes.now
    (has_codes c.args.text.now c.args.span.now c.in-Some.codes.now c.in-Some.ensures.0 c.in-Some.ensures.1 c.if-codes-gt-MOST_CODES.false)
    c.in-Some-first_missing.at (get_or c.in-Some.codes.now c.in-Some-first_missing.at 0)
    (sym (c.first_missing.ensures.first value is) ∙ c.in-Some-first_missing.is) refl

pub returns-in-Some-hyphen-clause-refusal : goal.returns-in-Some-hyphen-clause-refusal
returns-in-Some-hyphen-clause-refusal g c = λ value is.
    missing_hyphen value c.args.text.now c.args.span.now c.in-Some.codes.now
    (has_codes c.args.text.now c.args.span.now c.in-Some.codes.now c.in-Some.ensures.0 c.in-Some.ensures.1 c.if-codes-gt-MOST_CODES.false)
    c.in-Some-hyphen.code (sym (c.first_missing.ensures.first value is) ∙ c.in_default-first_missing.is) c.in-Some-hyphen.is
    (grind (arith, c.exists.ensures value is))

pub returns-in_default-hyphen-clause-refusal : goal.returns-in_default-hyphen-clause-refusal
returns-in_default-hyphen-clause-refusal g c = λ value is.
    elim c.in_default-hyphen.branch [
      | in_default-hyphen-via-in-Some-hyphen+else-not-exists w ↦
          accepted_with value c.args.text.now c.args.span.now c.in-Some.codes.now
          (has_codes c.args.text.now c.args.span.now c.in-Some.codes.now c.in-Some.ensures.0 c.in-Some.ensures.1 c.if-codes-gt-MOST_CODES.false)
          w.in-Some-hyphen.code (sym (c.first_missing.ensures.first value is) ∙ c.in_default-first_missing.is) w.in-Some-hyphen.is
          (grind (arith, w.exists.ensures value is))
      | in_default-hyphen-via-in_default-hyphen w ↦
          accepted_without value c.args.text.now c.args.span.now c.in-Some.codes.now
          (has_codes c.args.text.now c.args.span.now c.in-Some.codes.now c.in-Some.ensures.0 c.in-Some.ensures.1 c.if-codes-gt-MOST_CODES.false)
          (sym (c.first_missing.ensures.first value is) ∙ c.in_default-first_missing.is) w.in_default-hyphen.is
    ]
