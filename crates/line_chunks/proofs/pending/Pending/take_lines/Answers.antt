use Rattle.std.proofs.Common.{ap, sym, ◌∙◌, ◌+◌, ◌-◌, ◌++◌, drop, take}
use Rattle.line_chunks.proofs.PendingLemmas.{lines_at}
use Rattle.line_chunks.proofs.pending.Pending.take_lines.Goals as goal

pub returns-clause-taken : goal.returns-clause-taken
returns-clause-taken c =
    let own = c.self.inside in
    let taken = c.in_ok-taken.ensures.items ∙ ap (λ bytes. take c.end_of_lines-end.result (take (own.whole - own.start) (drop own.start bytes))) c.deref.ensures.value in
    ap (λ pending. pending.lines) (sym c.self.view_is) ∙ (lines_at own.bytes.items own.start own.whole c.self.invariant.0 c.end_of_lines-end.result
    ∙ ap (λ front. front ++ drop (own.start + c.end_of_lines-end.result) (take own.whole own.bytes.items)) (sym taken))
