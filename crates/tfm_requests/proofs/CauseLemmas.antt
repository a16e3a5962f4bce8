-- Why a font or an encoding vector is refused.
use Rattle.std.proofs.Common.{arith, ◌≡◌, ℕ, zero, suc, ◌+◌, ◌*◌, ◌<◌, ◌≤◌, List, [], ◌∷◌, ◌++◌, length, get_or, map, take, Option, Some, None, Bor, refl, ap, sym, subst, ◌∙◌}
use Rattle.std.proofs.lemmas.List.Elements.{All-cons}
use Rattle.std.proofs.lemmas.List.{length-map}
use Rattle.std.proofs.lemmas.Slice.Zip.{AllZip-long}
use Rattle.std.specs.Prelude.{All, IfErr, IfSome, Result, Ok, Err}
use Rattle.std.specs.Arc.{arc_value}
use Rattle.std.specs.List.{AllZip}
use Rattle.std.specs.declared.alloc.Global.{Global}
use Rattle.std.specs.declared.sync.Arc.{Arc}
use Rattle.tfm_tables.specs.Acceptance.{font_fault_of}
use Rattle.tfm_tables.specs.Font.{FontValue, IsFontOf, IsRefusalOf}
use Rattle.tfm_tables.specs.declared.fault.FontFault.{FontFault}
use Rattle.tfm_tables.specs.declared.fault.FontFault.TheVariants.{OutOfMemory as NoRoom}
use Rattle.set_line.specs.Terms.{TermsValue}
use Rattle.font_texts.specs.CountsText.{IsHeadRefusalOf, head_fault_of}
use Rattle.command_line.specs.declared.request.Layout.{Layout}
use Rattle.tfm_requests.specs.Causes.{IsAcceptedJob, IsFontError, IsHeadError, IsJobError}
use Rattle.tfm_requests.specs.Errors.{font_error_of, font_error_of_read, job_error_of}
use Rattle.tfm_requests.specs.Jobs.{AreTermsOf, AreWordsOfJobs, HasTermsOf, IsOpenedWith, JobValue, job_value, jobs_in, IsSourceWith}
use Rattle.tfm_requests.specs.Kept.{HaveSameFont}
use Rattle.tfm_requests.specs.Known.{OfKnown, file_bytes_of}
use Rattle.line_chunks.specs.Reading.{Told}
use Rattle.tfm_requests.specs.declared.batches.jobs.Job.{Job}
use Rattle.tfm_requests.specs.declared.failures.errors.FontError.{FontError}
use Rattle.tfm_requests.specs.declared.failures.errors.FontError.TheVariants.{Refused}
use Rattle.tfm_requests.specs.declared.failures.errors.ReadFault.{ReadFault}
use Rattle.tfm_requests.specs.declared.failures.errors.ReadFault.TheVariants.{NotRead as Unread, OutOfMemory as ReadMemory}
use Rattle.tfm_requests.proofs.KnownLemmas.{of_known}

-- ---- one font

-- the error of a font that isn't accepted
pub refused_font : (bytes : List ℕ) (fault : FontFault) → IsRefusalOf bytes fault → IsFontError (Some bytes) (font_error_of fault)
refused_font bytes NoRoom is = tt
refused_font bytes fault is = is

pub refused_head : (bytes : List ℕ) (fault : FontFault) → IsHeadRefusalOf bytes fault → IsHeadError (Some bytes) (font_error_of fault)
refused_head bytes NoRoom is = tt
refused_head bytes fault is = is

-- a font that wasn't read may have any bytes
pub unread_font : (known : Option (List ℕ)) (fault : ReadFault) → IsFontError known (font_error_of_read fault)
unread_font known Unread = tt
unread_font known ReadMemory = tt

pub unread_head : (known : Option (List ℕ)) (fault : ReadFault) → IsHeadError known (font_error_of_read fault)
unread_head known Unread = tt
unread_head known ReadMemory = tt

-- an error of the bytes that were kept is one of the whole file
pub font_error : (known : Option (List ℕ)) (bytes : List ℕ) (error : FontError) → IfSome known (λ all. HaveSameFont bytes all)
    → IsFontError (Some bytes) error → IsFontError known error
font_error known bytes (Refused f) same is = of_known known bytes (λ all. font_fault_of all ≡ Some f) same is (λ all has. sym has.fault ∙ is)
font_error known bytes error same is = tt

pub head_error : (known : Option (List ℕ)) (bytes : List ℕ) (error : FontError) → IfSome known (λ all. HaveSameFont bytes all)
    → IsHeadError (Some bytes) error → IsHeadError known error
head_error known bytes (Refused f) same is = of_known known bytes (λ all. head_fault_of all ≡ Some f) same is (λ all has. sym has.head ∙ is)
head_error known bytes error same is = tt

-- the same of a call over these bytes
pub kept_error : {A : Type 0} (known : Option (List ℕ)) (bytes : List ℕ) {slice : List ℕ} (r : Result A FontError) → IfSome known (λ all. HaveSameFont bytes all)
    → slice ≡ bytes → IfErr r (IsFontError (Some slice)) → IfErr r (IsFontError known)
kept_error known bytes (Ok a) same at is = tt
kept_error known bytes (Err error) same at is = font_error known bytes error same (subst (λ b. IsFontError (Some b) error) at is)

-- ---- the fonts of jobs

-- a font that was read is accepted
pub accepted_job : (known : List ℕ → Option (List ℕ)) (layout : Layout) (job : JobValue) (terms : TermsValue) → AreTermsOf known layout job terms → IsAcceptedJob known layout job
accepted_job known layout job terms are = some (known job.font) are.0
  where
    some : (bytes : Option (List ℕ)) → OfKnown bytes (λ all. IsFontOf all layout.size terms.font) → OfKnown bytes (λ all. (font : FontValue) × IsFontOf all layout.size font)
    some None is = (is.0, (terms.font, is.1))
    some (Some all) is = (terms.font, is)

-- the jobs before a place have their terms, so their fonts are accepted
pub accepted_before : (known : List ℕ → Option (List ℕ)) (layout : Layout) (jobs : List Job) (pairs : List (Bor (List ℕ) × Arc TermsValue Global)) (i : ℕ) (job : Job)
    → i < length jobs → job ≡ get_or jobs i job → AllZip (HasTermsOf known layout) (take i jobs) pairs
    → (before : List JobValue) × (after : List JobValue)
    × (map job_value jobs ≡ before ++ job_value job ∷ after) × All (IsAcceptedJob known layout) before × (length before ≡ length pairs)
accepted_before known layout [] pairs i job within at has = absurd (omega (arith, within))
accepted_before known layout (j ∷ jobs) [] zero job within at has =
    ([], map job_value jobs, ap (λ first. job_value first ∷ map job_value jobs) (sym at), λ k d below. absurd (omega (arith, below)), refl)
accepted_before known layout (j ∷ jobs) (p ∷ pairs) zero job within at has = elim has [ ]
accepted_before known layout (j ∷ jobs) [] (suc i) job within at has = elim has [ ]
accepted_before known layout (j ∷ jobs) (p ∷ pairs) (suc i) job within at has =
    let rest = accepted_before known layout jobs pairs i job (omega (arith, within)) at has.1 in (
      job_value j ∷ rest.0,
      rest.1,
      ap (λ values. job_value j ∷ values) rest.2,
      All-cons (IsAcceptedJob known layout) (job_value j) rest.0 (accepted_job known layout (job_value j) (arc_value p.1) has.0.1) rest.3,
      ap suc rest.4,
    )

-- so the job at it is the first one with an error
pub first_error : (known : List ℕ → Option (List ℕ)) (layout : Layout) (jobs : List Job) (pairs : List (Bor (List ℕ) × Arc TermsValue Global)) (i : ℕ) (job : Job) (error : FontError)
    → i < length jobs → job ≡ get_or jobs i job → AllZip (HasTermsOf known layout) (take i jobs) pairs
    → IsFontError (known job.font.now) error → IsJobError known layout (map job_value jobs) (job_error_of (length pairs + 1) error)
first_error known layout jobs pairs i job (Refused fault) within at has is =
    let parts = accepted_before known layout jobs pairs i job within at has in
    (parts.0, job_value job, parts.1, parts.2, ap (λ n. n + 1) (sym parts.4), parts.3, is)
first_error known layout jobs pairs i job error within at has is = tt

-- three words or more are a job
pub few_jobs : (words : List (Bor (List ℕ))) → length (jobs_in words) * 3 ≤ length words
few_jobs [] = omega arith
few_jobs (a ∷ []) = omega arith
few_jobs (a ∷ b ∷ []) = omega arith
few_jobs (a ∷ b ∷ c ∷ words) = omega (arith, few_jobs words)

-- so of lawful words there are at most 64 sources
pub few_of_jobs : {S : Type 0} (known : List ℕ → Option (List ℕ)) (layout : Layout) (tell : S → Told) (words : List (Bor (List ℕ))) (jobs : List Job)
    (pairs : List (Bor (List ℕ) × Arc TermsValue Global)) (sources : List (S × Arc TermsValue Global)) → AreWordsOfJobs words → map job_value jobs ≡ jobs_in words
    → AllZip (HasTermsOf known layout) jobs pairs → AllZip (IsOpenedWith known layout tell) pairs sources → length sources ≤ 64
few_of_jobs known layout tell words jobs pairs sources lawful is has opened =
    let of_words : length (map job_value jobs) ≡ length (jobs_in words) = ap length is in
    omega (
      arith,
      few_jobs words,
      lawful.0.0,
      lawful.0.1,
      of_words,
      length-map jobs job_value,
      AllZip-long (HasTermsOf known layout) jobs pairs has,
      AllZip-long (IsOpenedWith known layout tell) pairs sources opened,
    )

-- there are as many sources as files
pub few_sources : {S : Type 0} (tell : S → Told × TermsValue) (known : List ℕ → Option (List ℕ)) (layout : Layout) (terms : TermsValue) (names : List (Bor (List ℕ))) (sources : List S)
    → AllZip (IsSourceWith layout terms) (file_bytes_of known names) (map tell sources) → length names ≤ 64 → length sources ≤ 64
few_sources tell known layout terms names sources are few =
    let long : length (map tell sources) ≡ length (file_bytes_of known names) = AllZip-long (IsSourceWith layout terms) (file_bytes_of known names) (map tell sources) are in
    omega (arith, long, length-map sources tell, length-map names (λ name. known name.now), few)
