use Rattle.std.proofs.Common.{[], ◌∷◌, ◌++◌, subst, sym}
use Rattle.std.specs.Io.KnownBytes.{Consumes, prepend_known}
use Rattle.set_line.specs.Lines.{HasNoFeed}
use Rattle.set_run.proofs.ReadingLemmas.{gives_known}
use Rattle.set_run.proofs.sources.reader_source.ReaderSource.read_line.Goals as goal

pub returns-in-Ok-Ended-clause-reads : goal.returns-in-Ok-Ended-clause-reads
returns-in-Ok-Ended-clause-reads g c =
    let before = prepend_known c.args.self.now.buffer (g.R.Read.remaining c.args.self.now.reader) in
    let after = prepend_known c.next_raw_line.new.buffer (g.R.Read.remaining c.next_raw_line.new.reader) in
    let taken = subst (λ line. HasNoFeed line × Consumes before after (line ++ 10 ∷ [])) (sym c.new.ensures)
    (rw c.in-Ok-Ended.field-0-is at c.in-Ok-Ended.ensures) in
    gives_known c.args.self.now.state before after c.new.result c.cut_at_feeds.ensures.first c.requires taken.0 taken.1
