-- The jobs of `each`: the jobs that its arguments request, and their settings and sources.
-- This project's own.
use Rattle.std.specs.Prelude.{◌≡◌, ◌≢◌, ℕ, ◌+◌, ◌/◌, ◌%◌, ◌<◌, ◌≤◌, true, List, [], ◌∷◌, ◌++◌, length, All, Option}
use Rattle.std.specs.Arc.{arc_value}
use Rattle.std.specs.Borrow.{Bor}
use Rattle.std.specs.Char.{is_ascii_digit}
use Rattle.std.specs.List.{list_all}
use Rattle.std.specs.Str.Parse.{digits_value}
use Rattle.std.specs.declared.alloc.Global.{Global}
use Rattle.std.specs.declared.sync.Arc.{Arc}
use Rattle.tfm_tables.specs.Font.{IsFontOf}
use Rattle.set_line.specs.Terms.{TermsValue}
use Rattle.tfm_requests.specs.Known.{OfKnown}
use Rattle.line_chunks.specs.Reading.{Told}
use Rattle.tfm_requests.specs.Told.{IsSourceOf}
use Rattle.command_line.specs.declared.request.Layout.{Layout}
use Rattle.tfm_requests.specs.declared.failures.errors.RequestError.{RequestError}
use Rattle.tfm_requests.specs.declared.failures.errors.RequestError.TheVariants.{NotInThrees, TooManyFiles, LimitRange, OutOfMemory}
use Rattle.tfm_requests.specs.declared.batches.jobs.Job.{Job}

-- a job: the name of its font, its limit and the name of its file
pub record JobValue : Type 0 where
  pub font : List ℕ
  pub limit : ℕ
  pub file : List ℕ

-- the jobs of arguments: each triple is a font, a limit in decimal digits and a file
abbrev pub jobs_in : List (Bor (List ℕ)) → List JobValue
jobs_in (font ∷ limit ∷ file ∷ words) = record { font = font.now; limit = digits_value 10 limit.now; file = file.now } ∷ jobs_in words
jobs_in words = []

-- the limits in arguments, as they are written: the second argument of each triple
abbrev pub limit_words : List (Bor (List ℕ)) → List (List ℕ)
limit_words (font ∷ limit ∷ file ∷ words) = limit.now ∷ limit_words words
limit_words words = []

-- the limit that an argument contains: one to eight decimal digits with a value from 1 to 16,777,216
abbrev pub IsLimitOf : List ℕ → ℕ → Type 0
IsLimitOf word limit =
    (list_all is_ascii_digit word ≡ true)
    × (1 ≤ length word)
    × (length word ≤ 8)
    × (digits_value 10 word ≡ limit)
    × (1 ≤ limit)
    × (limit ≤ 16777216)

-- an argument contains some limit
abbrev pub WritesLimit : List ℕ → Type 0
WritesLimit word = (limit : ℕ) × IsLimitOf word limit

-- arguments that are triples, at most 64
abbrev pub AreUpTo64Threes : List (Bor (List ℕ)) → Type 0
AreUpTo64Threes words = (length words % 3 ≡ 0) × (length words / 3 ≤ 64)

-- argument n of these, counted from 1, is the first that contains no limit
abbrev pub IsFirstWithoutLimit : ℕ → List (List ℕ) → Type 0
IsFirstWithoutLimit n words =
    (before : List (List ℕ)) × (word : List ℕ) × (after : List (List ℕ))
    × (words ≡ before ++ word ∷ after)
    × (n ≡ length before + 1)
    × All WritesLimit before
    × ¬ WritesLimit word

-- an error of the arguments of `each`: they aren't triples; there are more than 64 triples; limit n is the
-- first wrong one; or an allocation failed
abbrev pub IsErrorOfWords : List (Bor (List ℕ)) → RequestError → Type 0
IsErrorOfWords words NotInThrees = length words % 3 ≢ 0
IsErrorOfWords words TooManyFiles = (length words % 3 ≡ 0) × (64 < length words / 3)
IsErrorOfWords words (LimitRange n) = AreUpTo64Threes words × IsFirstWithoutLimit n (limit_words words)
IsErrorOfWords words OutOfMemory = Unit {0}
IsErrorOfWords words _ = ⊥

-- arguments without an error: at most 64 triples, each with a limit
abbrev pub AreWordsOfJobs : List (Bor (List ℕ)) → Type 0
AreWordsOfJobs words = AreUpTo64Threes words × All WritesLimit (limit_words words)

-- the value of a `Job`
abbrev pub job_value : Job → JobValue
job_value job = record { font = job.font.now; limit = job.limit; file = job.file.now }

-- the settings of lines: the font in these bytes at the size of the layout, this limit, and the policy of the
-- layout
abbrev pub AreTermsFor : Option (List ℕ) → Layout → ℕ → TermsValue → Type 0
AreTermsFor bytes layout limit terms =
    OfKnown bytes (λ all. IsFontOf all layout.size terms.font) × (terms.limit ≡ limit) × (terms.policy ≡ layout.policy)

-- a source of the lines in these bytes for a layout, by its known contents, with these settings
abbrev pub IsSourceWith : Layout → TermsValue → Option (List ℕ) → Told × TermsValue → Type 0
IsSourceWith layout terms bytes source = IsSourceOf layout.crlf bytes source.0 × (source.1 ≡ terms)

module _ (known : List ℕ → Option (List ℕ)) where
  -- the settings of a job in a layout
  abbrev pub AreTermsOf : Layout → JobValue → TermsValue → Type 0
  AreTermsOf layout job terms = AreTermsFor (known job.font) layout job.limit terms

  -- a source of the file of a job, by its known contents, with the settings of the job
  abbrev pub IsSourceOfJob : Layout → JobValue → Told × TermsValue → Type 0
  IsSourceOfJob layout job source = IsSourceOf layout.crlf (known job.file) source.0 × AreTermsOf layout job source.1

  -- the name of the file of a job, with the settings of the job
  abbrev pub HasTermsOf : Layout → Job → Bor (List ℕ) × Arc TermsValue Global → Type 0
  HasTermsOf layout job named = (named.0 ≡ job.file) × AreTermsOf layout (job_value job) (arc_value named.1)

module _ {S : Type 0} where
  -- the known contents of a source, with its settings
  abbrev pub told_with_terms : (S → Told) → S × Arc TermsValue Global → Told × TermsValue
  told_with_terms tell source = (tell source.0, arc_value source.1)

  -- a source of the lines of the file of this name, with the same settings
  abbrev pub IsOpenedWith :
      (List ℕ → Option (List ℕ)) → Layout → (S → Told) → Bor (List ℕ) × Arc TermsValue Global → S × Arc TermsValue Global → Type 0
  IsOpenedWith known layout tell named source = IsSourceOf layout.crlf (known named.0.now) (tell source.0) × (source.1 ≡ named.1)
