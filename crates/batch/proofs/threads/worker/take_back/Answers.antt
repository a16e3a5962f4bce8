use Rattle.std.proofs.Common.{rules, ◌≡◌, ℕ, ◌%◌, ◌<◌, [], length, get_or, subst}
use Rattle.std.proofs.lemmas.Nat.{mod_below}
use Rattle.std.specs.Prelude.{set, MatchOption}
use Rattle.batch.specs.Workers.{HasOneMore}
use Rattle.batch.proofs.WorkerLemmas.{took_back}
use Rattle.batch.proofs.threads.worker.take_back.Goals as goal

pub returns : goal.returns
returns g c =
    let workers = c.args.workers.now.items in let at : ℕ = c.args.number % c.len.result in let long : c.len.result ≡ length workers = search rules in
    let below : at < length workers = subst (λ n. at < n) long (mod_below c.args.number c.len.result (search rules)) in
    subst (λ n. MatchOption c.pop.result (get_or workers (c.args.number % n) [] ≡ []) (λ s. HasOneMore (c.args.number % n) s (set workers at c.pop.new.self) workers))
    long (took_back workers at c.index_mut.result.now c.pop.new.self c.pop.result below c.index_mut.ensures.value c.pop.ensures)
