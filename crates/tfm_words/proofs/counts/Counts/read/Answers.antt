use Rattle.std.proofs.Common.{subst, sym, refl}
use Rattle.tfm_words.specs.declared.numbers.Numbers.{Numbers}
use Rattle.tfm_words.specs.Counts.{IsLawful}
use Rattle.tfm_words.proofs.CountLemmas.{accepted_is, fault_is_not_accepted, ok_is_no_err}
use Rattle.tfm_words.proofs.ReachLemmas.{reach_of}
use Rattle.tfm_words.proofs.counts.Counts.read.Goals as goal

pub returns-in_err-numbers-clause-accepted : goal.returns-in_err-numbers-clause-accepted
returns-in_err-numbers-clause-accepted c = (
  λ ok. absurd (ok_is_no_err c.from_residual.result c.from_residual.ensures.0 ok),
  λ lawful. absurd (fault_is_not_accepted c.args.bytes.now _ (c.in_err-numbers.ensures.fault) lawful),
)

pub invariant_of-result : goal.invariant_of-result
invariant_of-result c =
    let family : Numbers → Type 0 = λ n. IsLawful n in
    subst family (sym (c.in_ok-numbers.ensures.value)) ((accepted_is c.args.bytes.now (c.in_ok-numbers.ensures.fault)).lawful)

pub returns-clause-accepted : goal.returns-clause-accepted
returns-clause-accepted c = (λ ok. accepted_is c.args.bytes.now (c.in_ok-numbers.ensures.fault), λ lawful. refl)

pub returns-clause-value : goal.returns-clause-value
returns-clause-value c =
    record { value = c.in_ok-numbers.ensures.value; lawful = accepted_is c.args.bytes.now (c.in_ok-numbers.ensures.fault) }

pub returns-clause-reach : goal.returns-clause-reach
returns-clause-reach c =
    reach_of c.args.bytes.now c.in_ok-numbers.numbers
    (record { value = c.in_ok-numbers.ensures.value; lawful = accepted_is c.args.bytes.now c.in_ok-numbers.ensures.fault })
