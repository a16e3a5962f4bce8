use Rattle.std.proofs.Common.{◌≡◌, ◌-◌, length, take, drop, arith, length-drop}
use Rattle.run_texts.proofs.StreamLemmas.{some_more, take_all_rest}
use Rattle.run_texts.proofs.writing.write_some.Goals as goal

pub loop-preserved : goal.loop-preserved
loop-preserved g c =
    let rest : take (length c.args.bytes.now - c.loop.done) (drop c.loop.done c.args.bytes.now) ≡ drop c.loop.done c.args.bytes.now =
    take_all_rest c.args.bytes.now c.loop.done in
    let took = rw rest at c.in-Some.ensures.took in (
      omega (arith, length-drop c.loop.done c.args.bytes.now, took.0, c.loop.invariant.0),
      some_more (g.W.Write.contents c.args.out.now) (g.W.Write.contents c.loop.out) (g.W.Write.contents c.write_once.new.out) c.args.bytes.now c.loop.done
          c.in-Some.count c.loop.invariant.1 took.1,
    )
