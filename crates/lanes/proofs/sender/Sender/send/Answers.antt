use Rattle.std.proofs.Common.{sym}
use Rattle.rtrb.specs.Ring.{sent}
use Rattle.lanes.proofs.MessageLemmas.{end_of-append, ends_last-append}
use Rattle.lanes.proofs.sender.Sender.send.Goals as goal

pub invariant_of-self-clause-last : goal.invariant_of-self-clause-last
invariant_of-self-clause-last g c =
    rw (c.push_reserved.ensures.sent.0, c.replace.ensures.value) (ends_last-append (sent c.args.self.now.producer) c.args.self.now.hand c.requires.unended)

pub invariant_of-self-clause-told : goal.invariant_of-self-clause-told
invariant_of-self-clause-told g c =
    rw (c.push_reserved.ensures.sent.0, c.ending-self.ensures, c.replace.ensures.value)
    (sym (end_of-append (sent c.args.self.now.producer) c.args.self.now.hand c.requires.unended))
