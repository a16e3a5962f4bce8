-- The effect of the whole program if it ends with exit status 0 or 1, and the reason if it ends with 2 or 3.
-- This project's own.
use Rattle.std.specs.Prelude.{◌≡◌, ◌⊎◌, ℕ, ◌==◌, ◌||◌, List, Bool, true, false, Option, None}
use Rattle.clap.specs.Words.{Text, kind_of}
use Rattle.clap.specs.declared.error.Error.{Error}
use Rattle.clap.specs.declared.error.kind.ErrorKind.{ErrorKind}
use Rattle.clap.specs.declared.error.kind.ErrorKind.TheVariants.{DisplayHelp, DisplayVersion, OutOfMemory}
use Rattle.command_line.specs.Asked.{IsAskedBy, IsRefusedBy}
use Rattle.command_line.specs.declared.request.Arguments.{Arguments}
use Rattle.tfm_requests.specs.Causes.{IsCauseOf}
use Rattle.tfm_requests.specs.Requests.{IsDone}
use Rattle.tfm_requests.specs.Status.{status_of}
use Rattle.tfm_requests.specs.declared.failures.failure.Failure.{Failure}
use Rattle.tfm_requests.specs.declared.failures.failure.Failure.TheVariants.{Usage}

-- whether an error of `clap` of this kind is a request for help or the version
abbrev pub is_answer : ErrorKind → Bool
is_answer DisplayHelp = true
is_answer DisplayVersion = true
is_answer _ = false

-- whether an error of `clap` of this kind means that the arguments are invalid: it is neither a request for
-- help or the version, nor a failed allocation
abbrev pub is_usage : ErrorKind → Bool
is_usage DisplayHelp = false
is_usage DisplayVersion = false
is_usage OutOfMemory = false
is_usage _ = true

-- whether a failure has exit status 2 or 3: the arguments, a font or an encoding vector are refused
abbrev pub is_refusal : Failure → Bool
is_refusal failure = (status_of failure == 2) || (status_of failure == 3)

-- the request of the arguments was done, with files whose contents aren't known; or the arguments request help or
-- the version
abbrev pub IsServed : List Text → Option (List ℕ) → Option (List ℕ) → Option (List ℕ) → ℕ → Type 0
IsServed words input before after status =
    ((asked : Arguments) × IsAskedBy words asked × IsDone (λ _. None) input before after asked status)
    ⊎ ((error : Error) × IsRefusedBy words error × (is_answer (kind_of error) ≡ true) × (status ≡ 0))

-- the arguments are invalid, or this is the reason for the failure of their request, with files whose contents
-- aren't known
abbrev pub IsTurnedDownBy : List Text → Option (List ℕ) → Failure → Type 0
IsTurnedDownBy words input failure =
    ((error : Error) × IsRefusedBy words error × (is_usage (kind_of error) ≡ true) × (failure ≡ Usage error))
    ⊎ ((asked : Arguments) × IsAskedBy words asked × IsCauseOf (λ _. None) input asked failure)

-- the same for the exit status of the failure
abbrev pub IsTurnedDown : List Text → Option (List ℕ) → ℕ → Type 0
IsTurnedDown words input status = (failure : Failure) × IsTurnedDownBy words input failure × (status ≡ status_of failure)
