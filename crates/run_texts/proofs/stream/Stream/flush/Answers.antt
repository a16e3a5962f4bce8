use Rattle.std.proofs.Common.{ap}
use Rattle.run_texts.proofs.StreamSteps.{flushed, goes_on}
use Rattle.run_texts.proofs.stream.Stream.flush.Goals as goal

pub returns-in_err-write_out-clause-given : goal.returns-in_err-write_out-clause-given
returns-in_err-write_out-clause-given g c = λ start events h.
    let s = c.args.self.now in
    let w = c.write_out.new.self in
    goes_on start s.out.ghost_name w.out.ghost_name s.version w.version s.counts.items w.counts.items (g.W.Write.contents s.out.now) (g.W.Write.contents w.out.now)
    s.buffer.items w.buffer.items events c.write_out.ensures.same.0 c.write_out.ensures.same.1 (ap (λ counts. counts.items) c.write_out.ensures.same.2) c.write_out.ensures.goes h

pub returns-clause-given : goal.returns-clause-given
returns-clause-given g c = λ start events h.
    let s = c.args.self.now in
    let w = c.write_out.new.self in
    flushed start w.out.ghost_name w.version w.counts.items (g.W.Write.contents w.out.now) (g.W.Write.contents c.flush.new.self) w.buffer.items events c.flush.ensures.bytes
    (goes_on start s.out.ghost_name w.out.ghost_name s.version w.version s.counts.items w.counts.items (g.W.Write.contents s.out.now) (g.W.Write.contents w.out.now)
    s.buffer.items w.buffer.items events c.write_out.ensures.same.0 c.write_out.ensures.same.1 (ap (λ counts. counts.items) c.write_out.ensures.same.2) c.write_out.ensures.goes h)
