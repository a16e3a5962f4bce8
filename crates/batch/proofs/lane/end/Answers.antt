use Rattle.std.proofs.Common.{◌≡◌, ◌*◌, length, subst, sym, ◌∙◌}
use Rattle.dealt_lanes.specs.Dealt.{dealer_lanes}
use Rattle.dealt_lanes.specs.Settled.{AreDealtLanes}
use Rattle.batch.specs.Workers.{HaveMore}
use Rattle.batch.proofs.HaveMore.{first_same, given_same}
use Rattle.batch.proofs.lane.end.Goals as goal

pub finish_source-requires : goal.finish_source-requires
finish_source-requires g c =
    let d = c.args.begun.feeding.dealer in
    let (setters, workers, lane, lanes, long, have, is, ends) = c.requires.lanes in
    let taken = subst (λ n. HaveMore (c.args.number * n) c.take_back_all.new.setters.items c.take_back_all.new.workers.items c.args.workers.now.items)
    c.lanes-count.ensures c.take_back_all.ensures.taken in
    let count : length setters ≡ length c.take_back_all.new.setters.items = long ∙ sym c.lanes-count.ensures ∙ sym c.take_back_all.ensures.count in
    let same = given_same (c.args.number * dealer_lanes d) setters c.take_back_all.new.setters.items workers c.take_back_all.new.workers.items
    c.args.workers.now.items count have taken in
    let taker : lane ≡ c.take_first-taker.result =
    first_same c.args.lanes.now.items lanes c.take_first-taker.new.takers.items lane c.take_first-taker.result is c.take_first-taker.ensures in
    subst (λ s. AreDealtLanes d s c.take_first-taker.result.gatherer) same.0 (subst (λ t. AreDealtLanes d setters t.gatherer) taker ends)

pub returns-clause-ended : goal.returns-clause-ended
returns-clause-ended g c =
    let taken = subst (λ n. HaveMore (c.args.number * n) c.take_back_all.new.setters.items c.take_back_all.new.workers.items c.args.workers.now.items)
    c.lanes-count.ensures c.take_back_all.ensures.taken in (
      c.take_back_all.new.setters.items,
      c.take_first-taker.result,
      c.finish_source.result,
      c.take_back_all.ensures.count ∙ c.lanes-count.ensures,
      taken,
      c.take_first-taker.ensures,
      c.push.ensures.items,
      c.finish_source.ensures,
    )
