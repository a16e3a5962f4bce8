use Rattle.std.proofs.Common.{ap, sym, ◌∙◌}
use Rattle.set_line.specs.Lines.{HasNoFeed}
use Rattle.line_chunks.proofs.PendingLemmas.{lines_at_feed, lines_stored, no_feed_at_end}
use Rattle.line_chunks.proofs.pending.Pending.skip_line.Goals as goal

pub returns-in-Some-clause-skipped : goal.returns-in-Some-clause-skipped
returns-in-Some-clause-skipped c =
    let own = c.self.inside in (
      c.in-Some.part.now,
      c.in-Some.ensures.0,
      ap (λ pending. pending.lines) (sym c.self.view_is)
          ∙ lines_at_feed own.bytes.items own.start own.whole c.self.invariant.0 c.in-Some.part.now c.in-Some.field-0-1.now (rw c.deref.ensures.value at c.in-Some.ensures.1),
      c.add.ensures.added,
    )

pub returns-in_default-clause-skipped : goal.returns-in_default-clause-skipped
returns-in_default-clause-skipped c =
    let own = c.self.inside in
    let none : HasNoFeed _ = rw (c.deref.ensures.value, lines_stored own.bytes.items own.start own.whole c.self.invariant.0) at c.in_default.ensures in
    absurd (c.requires.some (ap (λ pending. pending.lines) (sym c.self.view_is) ∙ no_feed_at_end _ none c.self.invariant.2))
