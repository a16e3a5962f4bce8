use Rattle.std.proofs.Common.{rules, arith, ◌+◌, ◌*◌, ◌^◌, ◌<◌, ◌≤◌, sym, ◌≡◌, length, subst, [], vec_len, vec_capacity}
use Rattle.std.proofs.lemmas.Result.{IfOk-weaker}
use Rattle.batch.specs.Given.{HandsBack}
use Rattle.batch.proofs.HaveMore.{more_length}
use Rattle.batch.proofs.SpawningLemmas.{after_below, as_many_lanes, both_done, both_ok, can_end, err_below, from_started, gathers_none, has_ended, no_less, no_more, ok_below, one_more, part_fits, room_left, workers_back}
use Rattle.batch.proofs.threads.spawning.+start_sources.Goals as goal

pub returns-in_default-begin-clause-workers : goal.returns-in_default-begin-clause-workers
returns-in_default-begin-clause-workers g t c = tt

pub returns-in_default-start_source-clause-workers : goal.returns-in_default-start_source-clause-workers
returns-in_default-start_source-clause-workers g t c = tt

pub returns-in_default-begin-clause-count : goal.returns-in_default-begin-clause-count
returns-in_default-begin-clause-count g t c = tt

pub returns-in_default-start_source-clause-count : goal.returns-in_default-start_source-clause-count
returns-in_default-start_source-clause-count g t c = tt

pub returns-in_default-begin-clause-room : goal.returns-in_default-begin-clause-room
returns-in_default-begin-clause-room g t c = tt

pub returns-in_default-start_source-clause-room : goal.returns-in_default-start_source-clause-room
returns-in_default-start_source-clause-room g t c = tt

pub returns-in_default-begin-clause-gathered : goal.returns-in_default-begin-clause-gathered
returns-in_default-begin-clause-gathered g t c = tt

pub returns-in_default-start_source-clause-gathered : goal.returns-in_default-start_source-clause-gathered
returns-in_default-start_source-clause-gathered g t c = tt

pub returns-in_default-begin-clause-begun : goal.returns-in_default-begin-clause-begun
returns-in_default-begin-clause-begun g t c = λ none _. no_more (vec_len c.pop.new.self) (vec_len c.args.sources) c.in-Some.ensures.len none

pub returns-in_default-start_source-clause-begun : goal.returns-in_default-start_source-clause-begun
returns-in_default-start_source-clause-begun g t c = λ none _. no_more (vec_len c.pop.new.self) (vec_len c.args.sources) c.in-Some.ensures.len none

pub returns-in_default-begin-clause-not_started : goal.returns-in_default-begin-clause-not_started
returns-in_default-begin-clause-not_started g t c = c.stopped.ensures

pub returns-in_default-start_source-clause-not_started : goal.returns-in_default-start_source-clause-not_started
returns-in_default-start_source-clause-not_started g t c = c.stopped-in_default-start_source.ensures

pub start_workers-started-requires-clause-willing : goal.start_workers-started-requires-clause-willing
start_workers-started-requires-clause-willing g t c κs within = c.requires.willing

pub start_workers-started-requires-clause-places : goal.start_workers-started-requires-clause-places
start_workers-started-requires-clause-places g t c κs within = part_fits (vec_len c.args.sources) _ _ c.requires.places

pub returns-in_default-clause-workers : goal.returns-in_default-clause-workers
returns-in_default-clause-workers g t c =
    from_started c.start_workers-started.result c.with_no_source.result (λ a. (a.1, a.2)) _ _ c.start_workers-started.ensures.workers
    c.with_no_source.ensures.ok (λ a has. has)

pub returns-in_default-clause-begun : goal.returns-in_default-clause-begun
returns-in_default-clause-begun g t c = λ _ none. ok_below c.start_workers-started.result c.with_no_source.result (c.start_workers-started.ensures.begun none) c.with_no_source.ensures.not_started

pub returns-in_default-clause-not_started : goal.returns-in_default-clause-not_started
returns-in_default-clause-not_started g t c = err_below c.start_workers-started.result c.with_no_source.result (λ u. u.collector ≡ c.args.collector) c.start_workers-started.ensures.not_started c.with_no_source.ensures.not_started

pub returns-in_default-clause-gathered : goal.returns-in_default-clause-gathered
returns-in_default-clause-gathered g t c =
    let of_closed = both_ok c.with_no_source.result _ _ c.with_no_source.ensures.closed
    (from_started c.start_workers-started.result c.with_no_source.result (λ a. (a.1, a.2)) _ _
    c.start_workers-started.ensures.collected c.with_no_source.ensures.ok (λ a has. has)) in
    let none : c.args.sources.items ≡ [] = search rules in
    IfOk-weaker c.with_no_source.result _ _ (λ a both.
    let no_lane : a.0.items ≡ [] = cc in
    gathers_none g.S.ItemSource.next_gives g.M.Making.makes g.S.ItemSource.origin g.C.Collector.lanes g.C.Collector.given g.C.Collector.refused c.args.sources.items c.args.lanes.takers.items
    c.args.collector a.0.items a.2 none no_lane both.1) of_closed

pub end_after-requires-clause-room : goal.end_after-requires-clause-room
end_after-requires-clause-room g t c =
    IfOk-weaker c.start_sources-below.result _ _ (λ b both. room_left (vec_len c.pop.new.self) (vec_len c.args.sources) (vec_capacity c.args.lanes.closed) (vec_len b.0) (vec_capacity b.0) c.in-Some.ensures.len c.requires.room both.0 both.1)
    (both_ok c.start_sources-below.result _ _ c.start_sources-below.ensures.count c.start_sources-below.ensures.room)

pub start_sources-below-requires-clause-some : goal.start_sources-below-requires-clause-some
start_sources-below-requires-clause-some g t c κs within = λ _.
    let (is, (ss, l, long, fresh, with_more, more)) = c.in-Some-begin.ensures.begun in
    let wide = more_length (c.len-number.result * c.args.context.now.lanes) ss c.args.lanes.workers.items c.begin.new.workers.items with_more in
    let old : vec_len c.args.lanes.workers ≡ length c.args.lanes.workers.items = search rules in
    let new : vec_len c.begin.new.workers ≡ length c.begin.new.workers.items = search rules in
    let some = c.requires.some (omega (arith, c.in-Some.ensures.len)) in
    omega (arith, old, new, wide, some)

pub end_after-requires-clause-fits : goal.end_after-requires-clause-fits
end_after-requires-clause-fits g t c =
    let from : c.in-Some-start_source.child.promise.0.value ≡ c.in-Some-begin.begun.feeding = c.in-Some-start_source.ensures in
    let handed : HandsBack g.S.ItemSource.next_gives g.S.ItemSource.origin c.in-Some-begin.begun.feeding c.join-feeding.result =
    subst (λ f. HandsBack g.S.ItemSource.next_gives g.S.ItemSource.origin f c.join-feeding.result) from c.join-feeding.ensures
    in
    let many = as_many_lanes c.in-Some.source c.args.context.now.lanes c.len-number.result c.in-Some-begin.begun.feeding c.join-feeding.result _ _
    c.in-Some-begin.ensures.begun handed.same in
    subst (λ k. c.len-number.result * k + k < 2 ^ 64) (sym many) c.in-Some-begin.ensures.fits

pub end_after-requires-clause-setters : goal.end_after-requires-clause-setters
end_after-requires-clause-setters g t c =
    let from : c.in-Some-start_source.child.promise.0.value ≡ c.in-Some-begin.begun.feeding = c.in-Some-start_source.ensures in
    let handed : HandsBack g.S.ItemSource.next_gives g.S.ItemSource.origin c.in-Some-begin.begun.feeding c.join-feeding.result =
    subst (λ f. HandsBack g.S.ItemSource.next_gives g.S.ItemSource.origin f c.join-feeding.result) from c.join-feeding.ensures
    in
    let many = as_many_lanes c.in-Some.source c.args.context.now.lanes c.len-number.result c.in-Some-begin.begun.feeding c.join-feeding.result _ _
    c.in-Some-begin.ensures.begun handed.same in
    subst (λ k. k ≤ vec_capacity c.in-Some-begin.begun.room) (sym many) c.in-Some-begin.ensures.room.1

pub end_after-requires-clause-lane : goal.end_after-requires-clause-lane
end_after-requires-clause-lane g t c =
    let from : c.in-Some-start_source.child.promise.0.value ≡ c.in-Some-begin.begun.feeding = c.in-Some-start_source.ensures in
    let handed : HandsBack g.S.ItemSource.next_gives g.S.ItemSource.origin c.in-Some-begin.begun.feeding c.join-feeding.result =
    subst (λ f. HandsBack g.S.ItemSource.next_gives g.S.ItemSource.origin f c.join-feeding.result) from c.join-feeding.ensures
    in
    IfOk-weaker c.start_sources-below.result _ _ (λ b both.
    can_end c.in-Some.source c.args.context.now.lanes c.len-number.result c.in-Some-begin.begun.feeding c.join-feeding.result c.args.lanes.workers.items
    c.begin.new.workers.items b.1.items c.args.lanes.takers.items c.begin.new.lanes.items b.2.lanes.items c.in-Some-begin.ensures.begun both.0 both.1.same
    handed.same) (both_ok c.start_sources-below.result _ _ c.start_sources-below.ensures.workers c.start_sources-below.ensures.gathered)

pub returns-clause-workers : goal.returns-clause-workers
returns-clause-workers g t c =
    let from : c.in-Some-start_source.child.promise.0.value ≡ c.in-Some-begin.begun.feeding = c.in-Some-start_source.ensures in
    let handed : HandsBack g.S.ItemSource.next_gives g.S.ItemSource.origin c.in-Some-begin.begun.feeding c.join-feeding.result =
    subst (λ f. HandsBack g.S.ItemSource.next_gives g.S.ItemSource.origin f c.join-feeding.result) from c.join-feeding.ensures
    in
    after_below c.start_sources-below.result c.end_after.result _ _ _ c.start_sources-below.ensures.workers c.end_after.ensures.ended (λ b a same ended.
    workers_back c.in-Some.source c.args.context.now.lanes c.len-number.result c.in-Some-begin.begun.feeding c.join-feeding.result b.0.items a.0.items
    c.args.lanes.workers.items c.begin.new.workers.items b.1.items a.1.items c.args.lanes.takers.items c.begin.new.lanes.items
    b.2.lanes.items a.2.lanes.items c.in-Some-begin.ensures.begun same handed.same ended)

pub returns-clause-count : goal.returns-clause-count
returns-clause-count g t c =
    after_below c.start_sources-below.result c.end_after.result _ _ _ c.start_sources-below.ensures.count c.end_after.ensures.count
    (λ b a had more. one_more (vec_len c.pop.new.self) (vec_len c.args.sources) (vec_len b.0) (vec_len a.0) c.in-Some.ensures.len had more)

pub returns-clause-room : goal.returns-clause-room
returns-clause-room g t c =
    after_below c.start_sources-below.result c.end_after.result _ _ _ c.start_sources-below.ensures.room c.end_after.ensures.room
    (λ b a had more. no_less (vec_capacity c.args.lanes.closed) (vec_capacity b.0) (vec_capacity a.0) had more)

pub returns-clause-begun : goal.returns-clause-begun
returns-clause-begun g t c = λ none _. no_more (vec_len c.pop.new.self) (vec_len c.args.sources) c.in-Some.ensures.len none

pub returns-clause-not_started : goal.returns-clause-not_started
returns-clause-not_started g t c = err_below c.start_sources-below.result c.end_after.result (λ u. u.collector ≡ c.args.collector) c.start_sources-below.ensures.not_started c.end_after.ensures.not_started

pub returns-clause-gathered : goal.returns-clause-gathered
returns-clause-gathered g t c =
    let from : c.in-Some-start_source.child.promise.0.value ≡ c.in-Some-begin.begun.feeding = c.in-Some-start_source.ensures in
    let handed : HandsBack g.S.ItemSource.next_gives g.S.ItemSource.origin c.in-Some-begin.begun.feeding c.join-feeding.result =
    subst (λ f. HandsBack g.S.ItemSource.next_gives g.S.ItemSource.origin f c.join-feeding.result) from c.join-feeding.ensures
    in
    after_below c.start_sources-below.result c.end_after.result _ _ _
    (both_ok c.start_sources-below.result _ _ c.start_sources-below.ensures.workers c.start_sources-below.ensures.gathered)
    (both_done c.start_sources-below.result c.end_after.result _ _ c.end_after.ensures.ended c.end_after.ensures.collector)
    (λ b a had ended.
    has_ended g.S.ItemSource.next_gives g.S.ItemSource.origin g.C.Collector.lanes g.C.Collector.given g.C.Collector.refused c.args.sources.items c.pop.new.self.items
    c.in-Some.source c.args.context.now.lanes c.len-number.result c.in-Some-begin.begun.feeding c.join-feeding.result b.0.items a.0.items
    c.args.lanes.workers.items c.begin.new.workers.items b.1.items a.1.items c.args.lanes.takers.items c.begin.new.lanes.items
    c.args.collector b.2 a.2 c.in-Some.ensures.items c.in-Some-begin.ensures.begun had.0 handed had.1 ended.0 ended.1.0 ended.1.1)
