use Rattle.std.proofs.Common.{sym, ◌∙◌}
use Rattle.set_run.proofs.ReadingLemmas.{moves_to_feed, moves_all}
use Rattle.set_run.proofs.sources.reader_source.buffer.Buffer.move_line.Goals as goal

pub returns-in_ok-push-in-Some : goal.returns-in_ok-push-in-Some
returns-in_ok-push-in-Some c =
    moves_to_feed c.self.inside.space.items c.deref.result.now c.args.self.now c.args.line.now.items c.push.new.line.items
    c.self.inside.start c.self.inside.end c.in-Some.at c.self.view_is c.deref.ensures.value (sym c.first_feed.ensures ∙ c.in-Some.is)
    c.in_ok-push-in-Some.ensures

pub returns-in_ok-push-in-None : goal.returns-in_ok-push-in-None
returns-in_ok-push-in-None c =
    moves_all c.self.inside.space.items c.deref.result.now c.args.self.now c.args.line.now.items c.push-in-None.new.line.items
    c.self.inside.start c.self.inside.end c.self.view_is c.deref.ensures.value (sym c.first_feed.ensures ∙ c.in-None.is)
    c.in_ok-push-in-None.ensures
