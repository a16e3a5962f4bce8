-- the words of the jobs so far, and those that are left, are all words; so are the limits, each of which is one; what is left is in threes
use Rattle.std.proofs.Common.{◌≡◌, ◌%◌, ◌++◌, length, map}
use Rattle.std.specs.Slice.Iter.{chunks_rest, chunks_size}
use Rattle.tfm_requests.specs.Jobs.{job_value, jobs_in}
use Rattle.tfm_requests.proofs.WordLemmas.{HasLimitsBefore}
use Rattle.tfm_requests.proofs.batches.jobs.jobs_of.Given as goal

abbrev pub invariant-loop-words : goal.invariant-loop-words
invariant-loop-words l =
    goal.iterator-loop-words.can_next l.words-iterator
    × goal.iterator-loop-words.is_finite l.words-iterator
    × (chunks_size l.words-iterator ≡ 3)
    × (jobs_in l.fn.words ≡ map job_value l.jobs.items ++ jobs_in (chunks_rest l.words-iterator))
    × (length (chunks_rest l.words-iterator) % 3 ≡ 0)
    × HasLimitsBefore l.fn.words (chunks_rest l.words-iterator) (length l.jobs.items)
