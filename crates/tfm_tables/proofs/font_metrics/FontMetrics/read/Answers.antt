use Rattle.std.proofs.Common.{◌*◌, ◌∙◌, ℕ, arith, subst, sym, take}
use Rattle.tfm_words.specs.Counts.{AreCountsOf}
use Rattle.tfm_tables.proofs.NamedLemmas.{fault_of_tables, named, refusal}
use Rattle.tfm_tables.proofs.MeasureLemmas.{bytes-take}
use Rattle.tfm_tables.proofs.SoundLemmas.{accepted_of, sound_of_accepted}
use Rattle.tfm_tables.proofs.font_metrics.FontMetrics.read.Goals as goal

pub returns-in-Err-check_tables-clause-fault : goal.returns-in-Err-check_tables-clause-fault
returns-in-Err-check_tables-clause-fault c =
    refusal c.args.bytes.now c.in-Err-check_tables.fault (named _ c.in-Err-check_tables.fault c.in-Err-check_tables.ensures)
    (fault_of_tables c.args.bytes.now _ c.in-Ok-design_size.design c.in-Err-check_tables.fault (grind (arith, c.in-Ok.ensures.fault)) (grind arith) (sym c.in-Ok-design_size.ensures) c.in-Err-check_tables.ensures)

pub invariant_of-result : goal.invariant_of-result
invariant_of-result c =
    let bytes = c.args.bytes.now in
    let reach : ℕ → Type 0 = λ n. AreCountsOf (take (4 * n) bytes) c.in-Ok.counts in
    accepted_of _ (take (4 * c.from.result) bytes) c.in-Ok-from_slice.ensures.items (subst reach (sym (c.from.ensures ∙ c.lf.ensures.value)) c.in-Ok.ensures.reach)
    (sound_of_accepted _ (bytes-take (4 * c.from.result) bytes (λ k. omega (arith, c.type_inv.bytes k))) (grind (arith, c.in_default.ensures))) (sym c.in-Ok-design_size.ensures)
