use Rattle.std.proofs.Common.{◌<◌, length, arith, refl, ◌∙◌}
use Rattle.std.proofs.lemmas.List.Folds.{list_all_at, list_all_more}
use Rattle.std.proofs.lemmas.Int.Digits.{digits_value_more}
use Rattle.encoding_vectors.specs.Names.{is_upper_hex}
use Rattle.encoding_vectors.proofs.NumberLemmas.{most, power_more}
use Rattle.encoding_vectors.proofs.numbers.hex_number.Goals as goal

pub overflow_mul-number : goal.overflow_mul-number
overflow_mul-number c =
    let digits = c.args.digits.now in let i = c.loop-digit.digit-index in
    let few : i < 6 = omega arith in
    omega (arith, most i few)

pub overflow_add-number : goal.overflow_add-number
overflow_add-number c =
    let digits = c.args.digits.now in let i = c.loop-digit.digit-index in
    let few : i < 6 = omega arith in
    omega (arith, most i few, c.in_ok-number.ensures.small)

pub loop-digit-preserved : goal.loop-digit-preserved
loop-digit-preserved c =
    let digits = c.args.digits.now in let i = c.loop-digit.digit-index in
    let within : i < length digits = omega arith in (
      omega (arith, power_more i, c.in_ok-number.ensures.small),
      list_all_more is_upper_hex digits i 0 within ∙ rw (c.loop-digit.invariant.1, c.in_ok-number.ensures.digit) refl,
      omega (arith, digits_value_more 16 digits i within, c.in_ok-number.ensures.value),
    )

pub returns-in_err-number : goal.returns-in_err-number
returns-in_err-number c =
    let digits = c.args.digits.now in let i = c.loop-digit.digit-index in
    let within : i < length digits = omega arith in
    rw (c.from_residual.ensures, list_all_at is_upper_hex digits i 0 within c.in_err-number.ensures.digit) refl
