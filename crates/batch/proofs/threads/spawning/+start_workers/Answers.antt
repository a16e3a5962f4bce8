use Rattle.std.proofs.Common.{arith, ap, ◌∙◌, ◌≡◌, ◌+◌, ◌≤◌, [], ◌∷◌, ◌++◌, length, refl, subst, sym, vec_len, vec_capacity}
use Rattle.std.specs.List.{AllZip}
use Rattle.std.proofs.lemmas.Result.{IfOk-weaker}
use Rattle.batch.specs.Gathering.{Collects}
use Rattle.lanes.specs.Ends.{SameSetter}
use Rattle.batch.proofs.SpawningLemmas.{after_below, both_ok, err_below, no_more, reserved}
use Rattle.std.proofs.lemmas.List.Elements.{AllZip-push, length_all_zip}
use Rattle.batch.proofs.threads.spawning.+start_workers.Goals as goal

pub returns-then-is_err-clause-workers : goal.returns-then-is_err-clause-workers
returns-then-is_err-clause-workers g t c = tt

pub returns-in_default-spawn_with-clause-workers : goal.returns-in_default-spawn_with-clause-workers
returns-in_default-spawn_with-clause-workers g t c = tt

pub returns-then-is_err-clause-room : goal.returns-then-is_err-clause-room
returns-then-is_err-clause-room g t c = tt

pub returns-in_default-spawn_with-clause-room : goal.returns-in_default-spawn_with-clause-room
returns-in_default-spawn_with-clause-room g t c = tt

pub returns-then-is_err-clause-collected : goal.returns-then-is_err-clause-collected
returns-then-is_err-clause-collected g t c = tt

pub returns-in_default-spawn_with-clause-collected : goal.returns-in_default-spawn_with-clause-collected
returns-in_default-spawn_with-clause-collected g t c = tt

pub returns-then-is_err-clause-begun : goal.returns-then-is_err-clause-begun
returns-then-is_err-clause-begun g t c = λ none. no_more (vec_len c.pop.new.self) (vec_len c.args.workers) c.in-Some.ensures.len none

pub returns-in_default-spawn_with-clause-begun : goal.returns-in_default-spawn_with-clause-begun
returns-in_default-spawn_with-clause-begun g t c = λ none. no_more (vec_len c.pop.new.self) (vec_len c.args.workers) c.in-Some.ensures.len none

pub returns-then-is_err-clause-not_started : goal.returns-then-is_err-clause-not_started
returns-then-is_err-clause-not_started g t c = c.stopped.ensures

pub returns-in_default-spawn_with-clause-not_started : goal.returns-in_default-spawn_with-clause-not_started
returns-in_default-spawn_with-clause-not_started g t c = c.stopped-in_default-spawn_with.ensures

pub returns-in_default-clause-collected : goal.returns-in_default-clause-collected
returns-in_default-clause-collected g t c = c.collect_or_stop-collected.ensures

pub returns-in_default-clause-begun : goal.returns-in_default-clause-begun
returns-in_default-clause-begun g t c = λ _. refl

pub returns-in_default-clause-not_started : goal.returns-in_default-clause-not_started
returns-in_default-clause-not_started g t c = tt

pub come_back-requires : goal.come_back-requires
come_back-requires g t c =
    let room : vec_len c.reserve.new.self + 1 ≤ vec_capacity c.reserve.new.self = reserved c.reserve.result _ c.is_err.result c.is_err.ensures.value c.if-is_err.false c.reserve.ensures.ok in
    IfOk-weaker c.start_workers-below.result _ _ (λ b both.
    let long : length c.reserve.new.self.items ≡ length b.0.items = length_all_zip (AllZip SameSetter) c.reserve.new.self.items b.0.items both.0 in
    omega (arith, long, room, both.1))
    (both_ok c.start_workers-below.result (λ b. AllZip (AllZip SameSetter) c.reserve.new.self.items b.0.items) (λ b. vec_capacity c.reserve.new.self ≤ vec_capacity b.0)
    c.start_workers-below.ensures.workers c.start_workers-below.ensures.room)

pub returns-clause-workers : goal.returns-clause-workers
returns-clause-workers g t c =
    let was : c.args.workers.items ≡ c.reserve.new.self.items ++ c.in-Some.worker ∷ [] =
    c.in-Some.ensures.items ∙ ap (λ xs. xs ++ c.in-Some.worker ∷ []) (sym c.reserve.ensures.items) in
    let from : c.in-Ok.child.promise.0.value ≡ c.in-Some.worker = ap (λ p. p.0.value) c.in-Ok.ensures.ok ∙ c.of.ensures in
    let kept : AllZip SameSetter c.in-Some.worker c.join-worker.result =
    subst (λ w. AllZip SameSetter w c.join-worker.result) from c.join-worker.ensures in
    after_below c.start_workers-below.result c.come_back.result (λ b. AllZip (AllZip SameSetter) c.reserve.new.self.items b.0.items) (λ b a. a.0.items ≡ b.0.items ++ c.join-worker.result ∷ []) _ c.start_workers-below.ensures.workers c.come_back.ensures.items (λ b a same is.
    subst (λ xs. AllZip (AllZip SameSetter) xs a.0.items) (sym was)
    (subst (λ ys. AllZip (AllZip SameSetter) (c.reserve.new.self.items ++ c.in-Some.worker ∷ []) ys) (sym is)
    (AllZip-push (AllZip SameSetter) c.reserve.new.self.items b.0.items c.in-Some.worker c.join-worker.result same kept)))

pub returns-clause-collected : goal.returns-clause-collected
returns-clause-collected g t c =
    after_below c.start_workers-below.result c.come_back.result (λ b. Collects g.C.Collector.lanes g.C.Collector.given g.C.Collector.refused c.args.lanes.items c.args.collector b.1) (λ b a. a.1 ≡ b.1) _ c.start_workers-below.ensures.collected c.come_back.ensures.collected
    (λ b a has is. subst (λ x. Collects g.C.Collector.lanes g.C.Collector.given g.C.Collector.refused c.args.lanes.items c.args.collector x) (sym is) has)

pub returns-clause-begun : goal.returns-clause-begun
returns-clause-begun g t c = λ none. no_more (vec_len c.pop.new.self) (vec_len c.args.workers) c.in-Some.ensures.len none

pub returns-clause-not_started : goal.returns-clause-not_started
returns-clause-not_started g t c = err_below c.start_workers-below.result c.come_back.result (λ u. u.collector ≡ c.args.collector) c.start_workers-below.ensures.not_started c.come_back.ensures.not_started

pub returns-clause-room : goal.returns-clause-room
returns-clause-room g t c =
    after_below c.start_workers-below.result c.come_back.result _ _ _ c.start_workers-below.ensures.room c.come_back.ensures.room
    (λ b a had more. omega (arith, c.in-Some.ensures.capacity, c.reserve.ensures.capacity, had, more))
