-- Words, fonts and files, and what the definitions alone make of them.
use Rattle.std.proofs.Common.{arith, ◌≡◌, ℕ, ◌<◌, ◌≤◌, List, [], ◌∷◌, length, true, false, Some, Bor, codes, refl, sym, subst}
use Rattle.std.proofs.lemmas.Bool.{true≢false}
use Rattle.tfm_words.specs.CountFaults.{faults_within}
use Rattle.tfm_words.specs.declared.count_fault.CountFault.TheVariants.{Truncated}
use Rattle.tfm_tables.specs.declared.fault.FontFault.TheVariants.{Counts as InCounts}
use Rattle.command_line.specs.declared.request.Checking.{Checking}
use Rattle.command_line.specs.declared.request.Layout.{Layout}
use Rattle.command_line.specs.declared.request.Setting.{Setting}
use Rattle.tfm_requests.specs.Checking.{dashes_in, names_in, separator_of}
use Rattle.tfm_requests.specs.Causes.{IsErrorOfCheck, IsErrorOfSetting, IsHeadError, IsJobError}
use Rattle.tfm_requests.specs.Jobs.{IsErrorOfWords, IsLimitOf, WritesLimit, jobs_in}
use Rattle.tfm_requests.specs.declared.failures.errors.FontError.TheVariants.{Refused}
use Rattle.tfm_requests.specs.declared.failures.errors.JobError.TheVariants.{Refused as JobRefused}
use Rattle.tfm_requests.specs.declared.failures.errors.RequestError.TheVariants.{NotInThrees, TooManyFiles, LimitRange, TwoFonts}
use Rattle.tfm_requests.proofs.WordLemmas.{limit_of_one}

-- the word of a text
abbrev word : List ℕ → Bor (List ℕ)
word text = record { ref_ptr = (0, 0); now = text }

-- ---- limits

-- the least limit, the greatest, and one with zeros before it
limits_written : IsLimitOf (codes "1") 1 × IsLimitOf (codes "16777216") 16777216 × IsLimitOf (codes "00000512") 512
limits_written = (
  (refl, omega arith, omega arith, refl, omega arith, omega arith),
  (refl, omega arith, omega arith, refl, omega arith, omega arith),
  (refl, omega arith, omega arith, refl, omega arith, omega arith),
)

-- nothing, zero, more than the greatest, nine digits and a plus write none
none_written : ¬ WritesLimit [] × ¬ WritesLimit (codes "0") × ¬ WritesLimit (codes "16777217") × ¬ WritesLimit (codes "000000001") × ¬ WritesLimit (codes "+1")
none_written = (
  (λ w. absurd (omega (arith, w.1.1))),
  (λ w. let zero_is : 0 ≡ w.0 = w.1.3 in absurd (omega (arith, zero_is, w.1.4))),
  (λ w. let more_is : 16777217 ≡ w.0 = w.1.3 in absurd (omega (arith, more_is, w.1.5))),
  (λ w. let nine : 9 ≤ 8 = w.1.2 in absurd (omega (arith, nine))),
  (λ w. absurd (true≢false (sym w.1.0))),
)

-- of two jobs the second has no limit
second_limit : IsErrorOfWords (word (codes "cmr10") ∷ word (codes "1") ∷ word (codes "a") ∷ word (codes "cmr10") ∷ word (codes "0") ∷ word (codes "b") ∷ []) (LimitRange 2)
second_limit =
    ((refl, omega arith), (codes "1" ∷ [], codes "0", [], refl, refl, limit_of_one (codes "1") (1, limits_written.0), none_written.1))

-- one word more than a job
fourth_word : IsErrorOfWords (word (codes "cmr10") ∷ word (codes "1") ∷ word (codes "a") ∷ word (codes "cmr10") ∷ []) NotInThrees
fourth_word = λ is. absurd (omega (arith, is))

-- ---- requests

-- of three fonts two are standard input
two_dashes : (asked : Checking) → asked.fonts.items ≡ word (codes "-") ∷ word (codes "a") ∷ word (codes "-") ∷ [] → IsErrorOfCheck asked TwoFonts
two_dashes asked is = subst (λ names. 1 < dashes_in names) (sym is) (omega arith)

-- of two it is one
one_dash : (asked : Checking) → asked.fonts.items ≡ word (codes "-") ∷ word (codes "--") ∷ [] → ¬ IsErrorOfCheck asked TwoFonts
one_dash asked is two = let more : 1 < 1 = subst (λ names. 1 < dashes_in names) is two in absurd (omega (arith, more))

-- 64 files are taken, and 65 aren't
most_files : (setting : Setting) → length setting.files.items ≡ 64 → ¬ IsErrorOfSetting setting TooManyFiles
most_files setting is = λ more. absurd (omega (arith, is, more))

too_many_files : (setting : Setting) → length setting.files.items ≡ 65 → IsErrorOfSetting setting TooManyFiles
too_many_files setting is = omega (arith, is)

-- ---- fonts

-- no bytes are a font without its 24 bytes of counts
no_font : IsHeadError (Some []) (Refused (InCounts (Truncated 24)))
unfolding faults_within
no_font = refl

-- of two jobs without such fonts the first one is told
first_of_two : (layout : Layout) → IsJobError (λ _. Some []) layout
    (jobs_in (word (codes "a") ∷ word (codes "1") ∷ word (codes "b") ∷ word (codes "c") ∷ word (codes "1") ∷ word (codes "d") ∷ [])) (JobRefused 1 (InCounts (Truncated 24)))
unfolding faults_within
first_of_two layout = ([], record { font = codes "a"; limit = 1; file = codes "b" }, record { font = codes "c"; limit = 1; file = codes "d" } ∷ [], refl, refl, λ k d below. absurd (omega (arith, below)), refl)

-- ---- lists of fonts

-- names with an empty line between them, and without a line feed at the end
named_lines : names_in (separator_of false) (codes "a\n\nb c\n-") ≡ codes "a" ∷ codes "b c" ∷ codes "-" ∷ []
named_lines = refl

-- names that end with zero bytes, one of them with a line feed
named_bytes : names_in (separator_of true) (97 ∷ 10 ∷ 98 ∷ 0 ∷ 255 ∷ 0 ∷ []) ≡ (97 ∷ 10 ∷ 98 ∷ []) ∷ (255 ∷ []) ∷ []
named_bytes = refl
