use Rattle.std.proofs.Common.{arith, ap, inr}
use Rattle.std.proofs.lemmas.Bool.Decides.{nat_tests}
use Rattle.tfmset_c.specs.declared.records.Form.{Form}
use Rattle.tfmset_c.proofs.TextLemmas.{answered, neither, records_called}
use Rattle.tfmset_c.proofs.records.tfmset_records.Goals as goal

pub write_records-requires : goal.write_records-requires
write_records-requires c = grind (arith, nat_tests, ap (λ (form : Form). form.first) c.in-Some-form_of.ensures.0, c.if-form-text.false)

pub returns-in-Ok-clause-font : goal.returns-in-Ok-clause-font
returns-in-Ok-clause-font c = answered _ _ _
    (neither c.in-Some.ensures.1 (neither (rw c.or_bytes.ensures at c.in-Some-encoding_of.ensures.stated) (neither c.in-Some-form_of.ensures.1
    (λ long. grind (arith, nat_tests, c.if-form-text.false, long)))))
    c.in-Ok.ensures.ok.accepted c.write_records.ensures.answers

pub returns-in-Ok-clause-told : goal.returns-in-Ok-clause-told
returns-in-Ok-clause-told c =
    inr (
      c.in-Some-encoding_of.encoding,
      rw c.or_bytes.ensures at c.in-Some-encoding_of.ensures.told,
      records_called c.args.font.now c.args.text.now c.args.options.now _ _ c.in-Some-encoding_of.encoding c.args.form.now _ _ _ _ _ _
          c.in-Some.ensures.0 c.in-Ok.ensures.ok c.in-Some-form_of.ensures.0 c.write_records.ensures.told,
    )
