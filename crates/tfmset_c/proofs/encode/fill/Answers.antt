use Rattle.std.proofs.Common.{rules}
use Rattle.tfmset_c.proofs.EncodedLemmas.{bytes_filled, few_filled, no_fault, text_filled}
use Rattle.tfmset_c.proofs.encode.fill.Goals as goal

pub returns-in_default-clause-ok : goal.returns-in_default-clause-ok
returns-in_default-clause-ok c = bytes_filled c.args.encoding c.args.text.now _ _ _ _ _ _ _ (search rules) c.put_list.ensures c.put_offsets.ensures

pub returns-in_default-clause-few : goal.returns-in_default-clause-few
returns-in_default-clause-few c = few_filled c.args.encoding c.args.text.now _ _ _ _ _ _ _ _ (returns-in_default-clause-ok c) (search (rules, no_fault))

pub returns-in-Some-of_line-clause-ok : goal.returns-in-Some-of_line-clause-ok
returns-in-Some-of_line-clause-ok c =
    let filled = c.fill_codes.ensures in
    text_filled c.args.encoding c.in-Some.encoding c.args.text.now _ _ _ _ _ _ c.in-Some-of_line.places c.fill_codes.result.0 c.fill_codes.result.1
    (search rules) (search rules) filled.codes filled.offsets filled.uncoded filled.fault

pub returns-in-Some-of_line-clause-few : goal.returns-in-Some-of_line-clause-few
returns-in-Some-of_line-clause-few c = few_filled c.args.encoding c.args.text.now _ _ _ _ _ _ _ _ (returns-in-Some-of_line-clause-ok c) (search (rules, no_fault))
