-- The exit statuses of the program, and what follows from the clauses of a request.
use Rattle.std.proofs.Common.{arith, ◌≡◌, ◌⊎◌, inl, inr, ◌≤◌, ℕ, true, [], ◌∷◌, Contains, lit<, ap, refl, subst, sym, ◌∙◌}
use Rattle.std.specs.Prelude.{◌==◌, ◌||◌, IfErr, IfOk, Result, Ok, Err}
use Rattle.run_texts.specs.declared.fault.ToolFault.TheVariants.{Font, Run, OutOfMemory, Write}
use Rattle.batch.specs.declared.run_fault.RunFault.TheVariants.{TooManySources, OutOfMemory as RunOutOfMemory, Thread}
use Rattle.tfm_requests.specs.Status.{done_status, status_of}
use Rattle.tfm_requests.specs.declared.failures.done.Done.{Done}
use Rattle.tfm_requests.specs.declared.failures.done.Done.TheVariants.{AllSet, SomeRefused, FontNotRead, FileNotEnded, LaneAbandoned}
use Rattle.tfm_requests.specs.declared.failures.errors.EncodingError.TheVariants.{NotRead as EncodingUnread, Refused as EncodingRefused, OutOfMemory as EncodingMemory}
use Rattle.tfm_requests.specs.declared.failures.errors.FileError.TheVariants.{NotOpened, OutOfMemory as FileMemory}
use Rattle.tfm_requests.specs.declared.failures.errors.FontError.TheVariants.{NotRead, Refused, OutOfMemory as FontMemory}
use Rattle.tfm_requests.specs.declared.failures.errors.JobError.TheVariants.{NotRead as JobUnread, Refused as JobRefused, OutOfMemory as JobMemory}
use Rattle.tfm_requests.specs.declared.failures.errors.RequestError.TheVariants.{OutOfMemory as RequestMemory}
use Rattle.tfm_requests.specs.declared.failures.failure.Failure.{Failure}
use Rattle.tfm_requests.specs.declared.failures.failure.Failure.TheVariants.{Usage, Request, Font as OfFont, JobFont, Encoding, File, Tool}
use Rattle.tfm_tool.specs.Served.{is_refusal}

-- an exit status from 0 to 5
abbrev pub IsListed : ℕ → Type 0
IsListed status = Contains (0 ∷ 1 ∷ 2 ∷ 3 ∷ 4 ∷ 5 ∷ []) status

pub done_listed : (done : Done) → IsListed (done_status done)
done_listed AllSet = (0, lit< tt, refl)
done_listed SomeRefused = (1, lit< tt, refl)
done_listed FontNotRead = (4, lit< tt, refl)
done_listed FileNotEnded = (4, lit< tt, refl)
done_listed LaneAbandoned = (5, lit< tt, refl)

-- the status of a failure is one of these, from 2 on
abbrev IsOfFailure : ℕ → Type 0
IsOfFailure status = IsListed status × (2 ≤ status)

of_two : IsOfFailure 2
of_two = ((2, lit< tt, refl), omega arith)

of_three : IsOfFailure 3
of_three = ((3, lit< tt, refl), omega arith)

of_four : IsOfFailure 4
of_four = ((4, lit< tt, refl), omega arith)

of_five : IsOfFailure 5
of_five = ((5, lit< tt, refl), omega arith)

pub failure_listed : (failure : Failure) → IsOfFailure (status_of failure)
failure_listed (Usage _) = of_two
failure_listed (Request RequestMemory) = of_five
failure_listed (Request _) = of_two
failure_listed (OfFont (Refused _)) = of_three
failure_listed (OfFont NotRead) = of_four
failure_listed (OfFont FontMemory) = of_five
failure_listed (JobFont (JobRefused _ _)) = of_three
failure_listed (JobFont (JobUnread _)) = of_four
failure_listed (JobFont JobMemory) = of_five
failure_listed (Encoding (EncodingRefused _)) = of_three
failure_listed (Encoding EncodingUnread) = of_four
failure_listed (Encoding EncodingMemory) = of_five
failure_listed (File (NotOpened _)) = of_four
failure_listed (File FileMemory) = of_five
failure_listed (Tool (Font _)) = of_three
failure_listed (Tool (Run TooManySources)) = of_two
failure_listed (Tool (Run RunOutOfMemory)) = of_five
failure_listed (Tool (Run Thread)) = of_five
failure_listed (Tool OutOfMemory) = of_five
failure_listed (Tool Write) = of_five

-- exit status 2 or 3 is that of a refusal
pub refusal_of : (status : ℕ) (failure : Failure) → status ≡ status_of failure → (status ≡ 2) ⊎ (status ≡ 3) → is_refusal failure ≡ true
refusal_of status failure is which =
    elim which [ inl two ↦ ap (λ n. (n == 2) || (n == 3)) (sym is ∙ two) | inr three ↦ ap (λ n. (n == 2) || (n == 3)) (sym is ∙ three) ]

-- what follows from the output of a request
pub ok_map : {A E : Type 0} (r : Result A E) (P Q : A → Type 0) → ((a : A) → P a → Q a) → IfOk r P → IfOk r Q
ok_map (Ok a) P Q to is = to a is
ok_map (Err e) P Q to is = tt

-- and from its failure
pub err_map : {A E : Type 0} (r : Result A E) (P Q : E → Type 0) → ((e : E) → P e → Q e) → IfErr r P → IfErr r Q
err_map (Ok a) P Q to is = tt
err_map (Err e) P Q to is = to e is

-- what holds of the end of a request
pub ok_at : {A E : Type 0} (r : Result A E) (a : A) (P : A → Type 0) → r ≡ Ok a → IfOk r P → P a
ok_at r a P is = subst (λ r. IfOk r P) is

-- and of its failure
pub err_at : {A E : Type 0} (r : Result A E) (e : E) (P : E → Type 0) → r ≡ Err e → IfErr r P → P e
err_at r e P is = subst (λ r. IfErr r P) is
