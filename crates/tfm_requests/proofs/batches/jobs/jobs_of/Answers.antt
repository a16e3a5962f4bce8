use Rattle.std.proofs.Common.{arith, rules, ◌≡◌, ◌∙◌, ◌+◌, sym, subst, ap, true, length, length-append, min}
use Rattle.std.specs.Prelude.{is_ok}
use Rattle.std.specs.Slice.Iter.{chunks_rest, chunks_size}
use Rattle.tfm_requests.specs.Jobs.{AreUpTo64Threes, IsFirstWithoutLimit, limit_words}
use Rattle.tfm_requests.proofs.EachLemmas.{job_more}
use Rattle.tfm_requests.proofs.WordLemmas.{HasLimitsBefore, all_limits, limit_missing, limit_more, threes_left}
use Rattle.tfm_requests.proofs.batches.jobs.jobs_of.Goals as goal

pub loop-words-preserved : goal.loop-words-preserved
loop-words-preserved c =
    let steps = c.in-Some.ensures.steps in
    let ok : is_ok c.push.result ≡ true = search rules in
    let more = rw ok at c.push.ensures.items in
    let three : chunks_size c.next.new.self ≡ 3 = steps.0 ∙ c.loop-words.invariant.2 in
    let rest = chunks_rest c.loop-words.words-iterator in
    let left = chunks_rest c.next.new.self in
    let taken : length c.in-Some.words.now ≡ min 3 (length rest) = steps.1.1 ∙ ap (λ n. min n (length rest)) c.loop-words.invariant.2 in
    let limits : HasLimitsBefore c.args.words.now left (length c.loop-words.jobs.items + 1) =
    limit_more c.args.words.now rest c.in-Some.words.now left _ (length c.loop-words.jobs.items) c.in-Some-limit_of.limit c.loop-words.invariant.5
    steps.1.0 c.in-len3.len_at_least c.in-len3.len_below c.in-Some-limit_of.ensures in
    let one : length c.push.new.self.items ≡ length c.loop-words.jobs.items + 1 = ap length more ∙ length-append c.loop-words.jobs.items _ in (
      omega (arith, three),
      tt,
      three,
      job_more c.args.words.now rest c.in-Some.words.now left c.loop-words.jobs.items c.push.new.self.items _ c.in-Some-limit_of.limit
          c.loop-words.invariant.3 steps.1.0 c.in-len3.len_at_least c.in-len3.len_below (sym c.in-Some-limit_of.ensures.3) more,
      threes_left rest c.in-Some.words.now left steps.1.0 taken steps.1.2 c.loop-words.invariant.4,
      subst (λ count. HasLimitsBefore c.args.words.now left count) (sym one) limits,
    )

pub returns-in_default-limit_of-clause-refused : goal.returns-in_default-limit_of-clause-refused
returns-in_default-limit_of-clause-refused c =
    let steps = c.in-Some.ensures.steps in
    let few : AreUpTo64Threes c.args.words.now = (search rules, search rules) in
    let first : IsFirstWithoutLimit (length c.loop-words.jobs.items + 1) (limit_words c.args.words.now) =
    limit_missing c.args.words.now (chunks_rest c.loop-words.words-iterator) c.in-Some.words.now (chunks_rest c.next.new.self) _
    (length c.loop-words.jobs.items) c.loop-words.invariant.5 steps.1.0 c.in-len3.len_at_least c.in-len3.len_below c.in_default-limit_of.ensures in
    let count : length c.loop-words.jobs.items + 1 ≡ c.len.result + 1 = search rules in
    (few, subst (λ n. IsFirstWithoutLimit n (limit_words c.args.words.now)) count first)

pub returns-clause-lawful : goal.returns-clause-lawful
returns-clause-lawful c =
    let few : AreUpTo64Threes c.args.words.now = (search rules, search rules) in (
      few,
      all_limits c.args.words.now (chunks_rest c.loop-words.words-iterator) (length c.loop-words.jobs.items) c.loop-words.invariant.5
          c.in-None.ensures.steps.1.0,
    )
