use Rattle.std.specs.Io.KnownBytes.{prepend_known}
use Rattle.set_run.proofs.ReadingLemmas.{takes_to_feed, takes_all}
use Rattle.set_run.proofs.sources.reader_source.raw_line.next_raw_line.Goals as goal

pub returns-then-branch-3 : goal.returns-then-branch-3
returns-then-branch-3 g c =
    takes_to_feed (prepend_known c.args.buffer.now (g.R.Read.remaining c.args.reader.now)) (g.R.Read.remaining c.loop.reader)
    (g.R.Read.remaining c.refill.new.reader) c.loop.line.items c.move_line-in-loop.new.line.items c.refill.new.self
    c.move_line-in-loop.new.self c.loop.invariant.no_feed c.loop.invariant.read c.in_ok-refill.ensures.read
    (rw c.if-branch-3.true at c.in_ok-move_line-2.ensures)

pub loop-preserved : goal.loop-preserved
loop-preserved g c =
    let all =
    takes_all (prepend_known c.args.buffer.now (g.R.Read.remaining c.args.reader.now)) (g.R.Read.remaining c.loop.reader)
    (g.R.Read.remaining c.refill.new.reader) c.loop.line.items c.move_line-in-loop.new.line.items c.refill.new.self
    c.move_line-in-loop.new.self c.loop.invariant.no_feed c.loop.invariant.read c.in_ok-refill.ensures.read
    (rw c.if-branch-3.false at c.in_ok-move_line-2.ensures) in
    record { none_in_hand = all.0; no_feed = all.1; read = all.2 }
