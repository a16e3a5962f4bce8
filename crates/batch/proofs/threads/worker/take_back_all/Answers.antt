use Rattle.std.proofs.Common.{rules, arith, ◌≡◌, ◌+◌, ◌-◌, [], ◌∷◌, length, ap, length-append}
use Rattle.std.specs.Prelude.{vec_len}
use Rattle.batch.proofs.HaveMore.{can_take_next, can_take_some, taken_next}
use Rattle.batch.proofs.threads.worker.take_back_all.Goals as goal

pub take_back-requires : goal.take_back-requires
take_back-requires g c =
    let n = c.args.first + c.args.lanes - c.loop-lane.lane in
    let m = c.args.first + c.args.lanes - (c.loop-lane.lane + 1) in
    let next : n ≡ m + 1 = omega arith in
    let some = can_take_some c.loop-lane.lane n m c.loop-lane.workers.items next c.loop-lane.invariant.rest in
    let same : vec_len c.loop-lane.workers ≡ length c.loop-lane.workers.items = search rules in
    omega (arith, same, some.0)

pub unreachable-requires : goal.unreachable-requires
unreachable-requires g c =
    let n = c.args.first + c.args.lanes - c.loop-lane.lane in
    let m = c.args.first + c.args.lanes - (c.loop-lane.lane + 1) in
    let next : n ≡ m + 1 = omega arith in
    (can_take_some c.loop-lane.lane n m c.loop-lane.workers.items next c.loop-lane.invariant.rest).1 c.in_default.ensures

pub loop-lane-preserved : goal.loop-lane-preserved
loop-lane-preserved g c =
    let now = c.loop-lane.workers.items in let new = c.take_back.new.workers.items in
    let n = c.args.first + c.args.lanes - c.loop-lane.lane in
    let m = c.args.first + c.args.lanes - (c.loop-lane.lane + 1) in
    let next : n ≡ m + 1 = omega arith in
    let long = length-append c.loop-lane.setters.items (c.in-Some.setter ∷ []) in
    let same = ap length c.put.ensures.items in
    record {
      taken = taken_next c.args.first c.loop-lane.lane c.loop-lane.setters.items c.put.new.setters.items c.in-Some.setter new now
          c.args.workers.now.items c.loop-lane.invariant.taken c.loop-lane.invariant.count c.put.ensures.items c.in-Some.ensures;
      count = omega (arith, long, same, c.loop-lane.invariant.count);
      rest = can_take_next c.loop-lane.lane n m now new c.in-Some.setter next c.loop-lane.invariant.rest c.in-Some.ensures;
      room = omega (arith, c.put.ensures.room, c.loop-lane.invariant.room);
    }
