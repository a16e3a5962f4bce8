use Rattle.std.proofs.Common.{◌≡◌, ◌++◌, ◌-◌, min, take, length, ◌∙◌, arith}
use Rattle.std.proofs.lemmas.Grind.{common_steps}
use Rattle.tfm_requests.proofs.KeptLemmas.{kept_more}
use Rattle.tfm_requests.proofs.files.reading.keep.Goals as goal

pub returns : goal.returns
returns c = λ read was.
    let grown : c.extend_from_slice.new.self.items ≡ c.args.bytes.now.items ++ take (min (131069 - length c.args.bytes.now.items) (length c.args.next.now)) c.args.next.now = grind (arith, common_steps) in
    grown ∙ kept_more read c.args.bytes.now.items c.args.next.now was
