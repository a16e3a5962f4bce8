use Rattle.std.proofs.Common.{arith}
use Rattle.std.proofs.lemmas.Result.{err_from_is_err_and}
use Rattle.run_texts.proofs.StreamSteps.{taken}
use Rattle.run_texts.proofs.stream.Stream.take.Goals as goal

pub returns-in_err-make_room-clause-given : goal.returns-in_err-make_room-clause-given
returns-in_err-make_room-clause-given g c = λ start. rw (err_from_is_err_and c.from_residual.result c.from_residual.ensures.1).1 (c.make_room.ensures.given start)

pub returns-in_err-push_chunk-clause-given : goal.returns-in_err-push_chunk-clause-given
returns-in_err-push_chunk-clause-given g c = λ start.
    rw (err_from_is_err_and c.from_residual-in_err-push_chunk.result c.from_residual-in_err-push_chunk.ensures.1).1 (λ events h. rw c.in_err-push_chunk.ensures.as_before.0 (c.make_room.ensures.given start events h))

pub returns-clause-given : goal.returns-clause-given
returns-clause-given g c = λ start events h.
    taken start _ _ _ _ _ _ events c.args.lane c.args.chunk.now _ _ (omega (arith, c.requires, c.make_room.ensures.lanes)) c.index.ensures
    c.in_ok-push_chunk.ensures.text c.in_ok-push_chunk.ensures.records c.in_ok-push_chunk.ensures.refused (c.make_room.ensures.given start events h)
