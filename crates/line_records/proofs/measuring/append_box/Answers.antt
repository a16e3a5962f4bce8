use Rattle.line_records.specs.Boxes.{box_text}
use Rattle.line_records.specs.Kept.{as_box}
use Rattle.line_records.proofs.BoxLemmas.{record_pushed}
use Rattle.line_records.proofs.measuring.append_box.Goals as goal

pub returns : goal.returns
returns c =
    record_pushed c.extend_from_slice-2.result c.args.number.source c.args.number.line (box_text c.args.unit (as_box c.args.kept c.args.extent)) c.args.out.now.items
    c.push_number.new.text.items c.push_number-2.new.text.items c.extend_from_slice.new.self.items c.push_box.new.text.items c.extend_from_slice-2.new.self.items
    c.in_ok-push_number.ensures.pushed c.in_ok-push_number-2.ensures.pushed c.in_ok-extend_from_slice.ensures.items c.in_ok-push_box.ensures c.extend_from_slice-2.ensures.items
