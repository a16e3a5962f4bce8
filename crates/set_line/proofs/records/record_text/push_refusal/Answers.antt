use Rattle.std.proofs.Common.{◌≡◌, refl, ap, ◌∙◌}
use Rattle.set_line.specs.declared.outcome.LineRefusal.TheVariants.{TooLong, Missing, Steps}
use Rattle.set_line.specs.declared.records.text_refusal.TextRefusal.TheVariants.{Line, NotUtf8, Uncoded}
use Rattle.set_line.specs.Record.{refusal_text}
use Rattle.set_line.proofs.RecordLemmas.{one_number, two_numbers}
use Rattle.set_line.proofs.records.record_text.push_refusal.Goals as goal

pub returns-in-Line-TooLong-clause-pushed : goal.returns-in-Line-TooLong-clause-pushed
unfolding refusal_text
returns-in-Line-TooLong-clause-pushed c =
    let is : c.args.refusal ≡ Line (TooLong c.in-Line-TooLong.bytes) = c.in-Line-TooLong.is ∙ ap Line (rw c.in-Line-TooLong.is at c.in-Line-TooLong.field-0-is) in
    one_number c.push_number.result c.args.out.now.items _ _ c.push_number.new.text.items _ (rw is (rw c.label-label.ensures refl)) c.push_number.ensures.pushed

pub returns-in_ok-push_number-in-Line-Missing-clause-pushed : goal.returns-in_ok-push_number-in-Line-Missing-clause-pushed
unfolding refusal_text
returns-in_ok-push_number-in-Line-Missing-clause-pushed c =
    let is : c.args.refusal ≡ Line (Missing c.in-Line-Missing.offset c.in-Line-Missing.code) = c.in-Line-Missing.is ∙ ap Line (rw c.in-Line-Missing.is at c.in-Line-Missing.field-0-is) in
    two_numbers c.push_number-in-Line-Missing-2.result c.args.out.now.items _ _ c.push_number-in-Line-Missing.new.text.items _ _ c.push_number-in-Line-Missing-2.new.text.items _
    (rw is (rw c.label-label-in-Line-Missing.ensures (rw c.label.ensures refl))) c.in_ok-push_number-in-Line-Missing.ensures.pushed
    c.push_number-in-Line-Missing-2.ensures.pushed

pub returns-in-Line-Steps-clause-pushed : goal.returns-in-Line-Steps-clause-pushed
unfolding refusal_text
returns-in-Line-Steps-clause-pushed c =
    let is : c.args.refusal ≡ Line (Steps c.in-Line-Steps.limit) = c.in-Line-Steps.is ∙ ap Line (rw c.in-Line-Steps.is at c.in-Line-Steps.field-0-is) in
    one_number c.push_number-in-Line-Steps.result c.args.out.now.items _ _ c.push_number-in-Line-Steps.new.text.items _
    (rw is (rw c.label-label-in-Line-Steps.ensures refl)) c.push_number-in-Line-Steps.ensures.pushed

pub returns-in-NotUtf8-clause-pushed : goal.returns-in-NotUtf8-clause-pushed
unfolding refusal_text
returns-in-NotUtf8-clause-pushed c =
    let is : c.args.refusal ≡ NotUtf8 c.in-NotUtf8.offset = cc in
    one_number c.push_number-in-NotUtf8.result c.args.out.now.items _ _ c.push_number-in-NotUtf8.new.text.items _
    (rw is (rw c.label-label-in-NotUtf8.ensures refl)) c.push_number-in-NotUtf8.ensures.pushed

pub returns-in_ok-push_number-in-Uncoded-clause-pushed : goal.returns-in_ok-push_number-in-Uncoded-clause-pushed
unfolding refusal_text
returns-in_ok-push_number-in-Uncoded-clause-pushed c =
    let is : c.args.refusal ≡ Uncoded c.in-Uncoded.offset c.in-Uncoded.character = cc in
    two_numbers c.push_character.result c.args.out.now.items _ _ c.push_number-in-Uncoded.new.text.items _ _ c.push_character.new.text.items _
    (rw is (rw c.label-label-in-Uncoded.ensures (rw c.label-label-in-Uncoded-2.ensures refl))) c.in_ok-push_number-in-Uncoded.ensures.pushed
    c.push_character.ensures.pushed
