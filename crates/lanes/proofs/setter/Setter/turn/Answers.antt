use Rattle.std.proofs.Common.{sym, subst, ◌∙◌, ◌<◌, ◌≤◌}
use Rattle.lanes.specs.Ends.{state_of}
use Rattle.lanes.proofs.MessageLemmas.{none_left, some_left}
use Rattle.lanes.proofs.TurnLemmas.{tried_kept, tried_refused, turns_kept}
use Rattle.lanes.proofs.setter.Setter.turn.Goals as goal

pub returns-then-self-clause-kept : goal.returns-then-self-clause-kept
returns-then-self-clause-kept g c =
    let old = c.args.self.now in turns_kept (state_of old) (state_of c.send.new.self) c.send.result old.orderly c.send.ensures.turn

pub set_first-requires : goal.set_first-requires
set_first-requires g c =
    record {
      ready = c.if-self.false;
      lines = some_left c.args.self.now.receiver.hand.items (subst (λ n. 0 < n) c.len.ensures.value c.if-len-gt0.true);
    }

pub returns-then-len-gt0-clause-kept : goal.returns-then-len-gt0-clause-kept
returns-then-len-gt0-clause-kept g c =
    let old = c.args.self.now in
    let tried = c.set_first.ensures in
    tried_kept (state_of old) (state_of c.set_first.new.self) c.set_first.result old.orderly tried.turn tried.refused

pub returns-then-len-gt0-clause-refused : goal.returns-then-len-gt0-clause-refused
returns-then-len-gt0-clause-refused g c =
    let old = c.args.self.now in
    tried_refused (state_of old) (state_of c.set_first.new.self) c.set_first.result c.set_first.ensures.refused
    (sym c.is_done.ensures ∙ c.if-is_done.false) c.if-self.false
    (some_left old.receiver.hand.items (subst (λ n. 0 < n) c.len.ensures.value c.if-len-gt0.true))

pub receive-requires : goal.receive-requires
receive-requires g c =
    record {
      ready = c.if-self.false;
      lines = none_left c.args.self.now.receiver.hand.items (subst (λ n. n ≤ 0) c.len.ensures.value c.if-len-gt0.false);
      done = sym c.is_done.ensures ∙ c.if-is_done.false;
    }

pub returns-clause-kept : goal.returns-clause-kept
returns-clause-kept g c =
    let old = c.args.self.now in turns_kept (state_of old) (state_of c.receive.new.self) c.receive.result old.orderly c.receive.ensures.turn
