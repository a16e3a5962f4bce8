-- The reason why a request fails: an error of its arguments, the first error of its fonts, or the error of its
-- encoding vector. Of the other failures nothing is stated, except that they aren't one of these.
-- This project's own; the order of font errors is defined in Acceptance of `tfm_tables`.
use Rattle.std.specs.Prelude.{◌≡◌, ℕ, ◌+◌, ◌<◌, List, [], ◌∷◌, ◌++◌, true, codes, length, All, Option, Some, None}
use Rattle.tfm_tables.specs.Acceptance.{font_fault_of}
use Rattle.tfm_tables.specs.Font.{FontValue, IsFontOf}
use Rattle.font_texts.specs.CountsText.{head_fault_of}
use Rattle.std.specs.Borrow.{Bor}
use Rattle.command_line.specs.declared.request.Checking.{Checking}
use Rattle.command_line.specs.declared.request.Jobs.{Jobs}
use Rattle.command_line.specs.declared.request.Layout.{Layout}
use Rattle.command_line.specs.declared.request.Request.{Request as Asked}
use Rattle.command_line.specs.declared.request.Request.TheVariants.{Counts, List as ListFont, Pairs, Check, Set, Stream, Each}
use Rattle.command_line.specs.declared.request.Arguments.{Arguments}
use Rattle.command_line.specs.declared.request.Setting.{Setting}
use Rattle.tfm_requests.specs.Checking.{dashes_in, is_input}
use Rattle.tfm_requests.specs.Jobs.{IsErrorOfWords, JobValue, jobs_in}
use Rattle.tfm_requests.specs.Known.{OfKnown, font_bytes_of}
use Rattle.tfm_requests.specs.Status.{tool_status}
use Rattle.tfm_requests.specs.Vectors.{IsEncodingError}
use Rattle.tfm_requests.specs.declared.failures.errors.FontError.{FontError}
use Rattle.tfm_requests.specs.declared.failures.errors.FontError.TheVariants.{Refused}
use Rattle.tfm_requests.specs.declared.failures.errors.JobError.{JobError}
use Rattle.tfm_requests.specs.declared.failures.errors.JobError.TheVariants.{Refused as JobRefused}
use Rattle.tfm_requests.specs.declared.failures.errors.RequestError.{RequestError}
use Rattle.tfm_requests.specs.declared.failures.errors.RequestError.TheVariants.{TooManyFiles, FontAndText, FontAndList, TwoFonts}
use Rattle.tfm_requests.specs.declared.failures.failure.Failure.{Failure}
use Rattle.tfm_requests.specs.declared.failures.failure.Failure.TheVariants.{Usage, Request, Font, JobFont, Encoding, File, Tool}

-- ---- the arguments

-- an error of the arguments of `set` or `stream`: there are more than 64 files, or the font and the lines of
-- `stream` are both standard input
abbrev pub IsErrorOfSetting : Setting → RequestError → Type 0
IsErrorOfSetting setting TooManyFiles = 64 < length setting.files.items
IsErrorOfSetting setting FontAndText = (setting.files.items ≡ []) × (setting.font.now ≡ codes "-")
IsErrorOfSetting setting _ = ⊥

-- an error of the arguments of `check`: more than one font is standard input, or a font and the list of fonts are
abbrev pub IsErrorOfCheck : Checking → RequestError → Type 0
IsErrorOfCheck asked TwoFonts = 1 < dashes_in asked.fonts.items
IsErrorOfCheck asked FontAndList = (0 < dashes_in asked.fonts.items) × (is_input asked.list ≡ true)
IsErrorOfCheck asked _ = ⊥

-- ---- the fonts

-- if the error is that the font in these bytes is refused, it is the first font error
abbrev pub IsFontError : Option (List ℕ) → FontError → Type 0
IsFontError bytes (Refused fault) = OfKnown bytes (λ all. font_fault_of all ≡ Some fault)
IsFontError bytes _ = Unit {0}

-- the same for the first error of the counts or the design size
abbrev pub IsHeadError : Option (List ℕ) → FontError → Type 0
IsHeadError bytes (Refused fault) = OfKnown bytes (λ all. head_fault_of all ≡ Some fault)
IsHeadError bytes _ = Unit {0}

module _ (known : List ℕ → Option (List ℕ)) where
  -- the font of a job is accepted, and read at the size of the layout
  abbrev pub IsAcceptedJob : Layout → JobValue → Type 0
  IsAcceptedJob layout job = OfKnown (known job.font) (λ all. (font : FontValue) × IsFontOf all layout.size font)

  -- if the error is that the font of the job with this number, counted from 1, is refused, it is the first font error,
  -- and the fonts of the jobs before it are accepted
  abbrev pub IsJobError : Layout → List JobValue → JobError → Type 0
  IsJobError layout jobs (JobRefused number fault) =
      (before : List JobValue) × (job : JobValue) × (after : List JobValue)
      × (jobs ≡ before ++ job ∷ after)
      × (number ≡ length before + 1)
      × All (IsAcceptedJob layout) before
      × IsFontError (known job.font) (Refused fault)
  IsJobError layout jobs _ = Unit {0}

-- ---- a request
-- The parameters: the known contents of a file, by its name, and of standard input.

module _ (known : List ℕ → Option (List ℕ)) where
  -- the reason for a failure, by the possible errors of the arguments, of the font, and of the fonts of jobs, and by
  -- the file with the encoding vector
  abbrev pub IsCause : (RequestError → Type 0) → (FontError → Type 0) → (JobError → Type 0) → Option (Bor (List ℕ)) → Failure → Type 0
  IsCause IsOfRequest IsOfFont IsOfJob vector (Usage _) = ⊥
  IsCause IsOfRequest IsOfFont IsOfJob vector (Request error) = IsOfRequest error
  IsCause IsOfRequest IsOfFont IsOfJob vector (Font error) = IsOfFont error
  IsCause IsOfRequest IsOfFont IsOfJob vector (JobFont error) = IsOfJob error
  IsCause IsOfRequest IsOfFont IsOfJob vector (Encoding error) = IsEncodingError known vector error
  IsCause IsOfRequest IsOfFont IsOfJob vector (File _) = Unit {0}
  IsCause IsOfRequest IsOfFont IsOfJob vector (Tool fault) = tool_status fault ≡ 5

  -- the reason for a failure of a request without an error of its arguments, whose font has these errors
  abbrev pub IsTextCause : (FontError → Type 0) → Option (Bor (List ℕ)) → Failure → Type 0
  IsTextCause IsOfFont = IsCause (λ _. ⊥) IsOfFont (λ _. ⊥)

  -- the reason for a failure of `check`; a font that isn't read or is refused is none
  abbrev pub IsCheckCause : Checking → Failure → Type 0
  IsCheckCause asked = IsCause (IsErrorOfCheck asked) (λ _. ⊥) (λ _. ⊥) None

  -- the reason for a failure of `set` or `stream`, with a font in these bytes
  abbrev pub IsSettingCause : Option (List ℕ) → Setting → Option (Bor (List ℕ)) → Failure → Type 0
  IsSettingCause bytes setting = IsCause (IsErrorOfSetting setting) (IsFontError bytes) (λ _. ⊥)

  -- the reason for a failure of `each`
  abbrev pub IsJobsCause : Jobs → Option (Bor (List ℕ)) → Failure → Type 0
  IsJobsCause jobs =
      IsCause (IsErrorOfWords jobs.words.items) (λ _. ⊥) (IsJobError known jobs.layout (jobs_in jobs.words.items))

module _ (known : List ℕ → Option (List ℕ)) (input : Option (List ℕ)) where
  -- the reason for a failure of a request, with the encoding vector that the arguments name
  abbrev pub IsCauseBy : Asked → Option (Bor (List ℕ)) → Failure → Type 0
  IsCauseBy (Counts font _) vector = IsTextCause known (IsHeadError (font_bytes_of known input font.now)) vector
  IsCauseBy (ListFont asked) vector = IsTextCause known (IsFontError (font_bytes_of known input asked.font.now)) vector
  IsCauseBy (Pairs asked) vector = IsTextCause known (IsFontError (font_bytes_of known input asked.font.now)) vector
  IsCauseBy (Check asked) vector = IsCheckCause known asked
  IsCauseBy (Set setting) vector = IsSettingCause known (font_bytes_of known input setting.font.now) setting vector
  IsCauseBy (Stream setting) vector = IsSettingCause known (font_bytes_of known input setting.font.now) setting vector
  IsCauseBy (Each jobs) vector = IsJobsCause known jobs vector

  -- the same for what arguments request
  abbrev pub IsCauseOf : Arguments → Failure → Type 0
  IsCauseOf asked = IsCauseBy asked.request asked.vector
