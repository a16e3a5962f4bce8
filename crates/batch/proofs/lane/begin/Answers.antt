use Rattle.std.proofs.Common.{rules, ◌≡◌, ◌*◌, ◌∷◌, refl, subst, ◌∙◌}
use Rattle.batch.specs.Workers.{HaveMore}
use Rattle.batch.proofs.lane.begin.Goals as goal

pub returns-in-Ok-insert-clause-begun : goal.returns-in-Ok-insert-clause-begun
returns-in-Ok-insert-clause-begun g c =
    let given = subst (λ n. HaveMore (c.args.number * n) c.in-Ok.setters.items c.args.workers.now.items c.give_all.new.workers.items)
    c.get-count.ensures.value
    (subst (λ n. HaveMore n c.in-Ok.setters.items c.args.workers.now.items c.give_all.new.workers.items) c.in_ok-first.ensures.1
    c.in_ok-give_all.ensures.given) in
    let inserted : c.insert.new.self.items ≡ c.in-Ok.taker ∷ c.args.lanes.now.items = search rules in
    (refl, (c.in-Ok.setters.items, c.in-Ok.taker, c.in-Ok.ensures.count ∙ c.get-count.ensures.value, c.in-Ok.ensures.fresh, given, inserted))
