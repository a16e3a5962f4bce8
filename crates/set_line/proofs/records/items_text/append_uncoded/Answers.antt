use Rattle.set_line.proofs.RecordLemmas.{uncoded_pushed}
use Rattle.set_line.proofs.records.items_text.append_uncoded.Goals as goal

pub returns : goal.returns
returns c =
    uncoded_pushed c.extend_from_slice.result c.args.version c.args.character c.args.texts.now.items c.push_character.new.text.items c.label.result.now c.label-2.result.now
    c.extend_from_slice.new.self.items c.in_ok-push_character.ensures.pushed c.label.ensures c.label-2.ensures c.extend_from_slice.ensures.items
