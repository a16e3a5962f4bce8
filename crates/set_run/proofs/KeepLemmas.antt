-- The collector that keeps all answers: one event more.
use Rattle.std.proofs.Common.{arith, ◌≡◌, ◌≢◌, ◌⊎◌, inl, inr, eqb, ℕ, zero, suc, ◌<◌, true, false, List, [], ◌∷◌, ◌++◌, length, get_or, ap, sym, subst, ◌∙◌, refl}
use Rattle.std.proofs.lemmas.List.{get_or-set_other, get_or-set_same, length-set}
use Rattle.std.proofs.lemmas.Bool.Decides.{eqb_tells}
use Rattle.std.specs.Prelude.{set}
use Rattle.set_line.specs.Answer.{AnswerValue}
use Rattle.lanes.specs.declared.ending.LaneEnd.{LaneEnd}
use Rattle.batch.specs.Events.{Answered, Ended, Event, answers_in}
use Rattle.batch.proofs.EventLemmas.{answers_ended, answers_other, answers_own}

-- what stands at a place, whatever is said if none is
get_or_any : (xs : List (List AnswerValue)) (i : ℕ) (d e : List AnswerValue) → i < length xs → get_or xs i d ≡ get_or xs i e
get_or_any [] i d e below = absurd (omega (arith, below))
get_or_any (x ∷ xs) zero d e below = refl
get_or_any (x ∷ xs) (suc i) d e below = get_or_any xs i d e (omega (arith, below))

-- each lane has its list
abbrev Keeps : List (List AnswerValue) → List (Event AnswerValue) → Type 0
Keeps lists events = (lane : ℕ) → lane < length lists → get_or lists lane [] ≡ answers_in lane events

pub keeps_more : (lists : List (List AnswerValue)) (events : List (Event AnswerValue)) (lane : ℕ) (answer : AnswerValue) (old new : List AnswerValue)
    → lane < length lists → old ≡ get_or lists lane old → new ≡ old ++ answer ∷ [] → Keeps lists events
    → Keeps (set lists lane new) (events ++ (lane, Answered answer) ∷ [])
keeps_more lists events lane answer old new here at is has = λ other below. by other (omega (arith, below, length-set lists lane new)) (eqb_tells other lane)
  where
    by : (other : ℕ) → other < length lists → ((eqb other lane ≡ true) × (other ≡ lane)) ⊎ ((eqb other lane ≡ false) × (other ≢ lane))
        → get_or (set lists lane new) other [] ≡ answers_in other (events ++ (lane, Answered answer) ∷ [])
    by other below (inl (test, same)) =
        subst (λ n. get_or (set lists lane new) n [] ≡ answers_in n (events ++ (lane, Answered answer) ∷ [])) (sym same)
        (get_or-set_same lists lane new [] here ∙ is ∙ ap (λ l. l ++ answer ∷ []) (at ∙ get_or_any lists lane old [] here ∙ has lane here)
        ∙ sym (answers_own lane events answer))
    by other below (inr (test, differ)) =
        get_or-set_other lists lane other new [] differ ∙ has other below ∙ sym (answers_other lane other events answer (λ same. differ (sym same)))

pub keeps_ended : (lists : List (List AnswerValue)) (events : List (Event AnswerValue)) (lane : ℕ) (end : LaneEnd) → Keeps lists events
    → Keeps lists (events ++ (lane, Ended end) ∷ [])
keeps_ended lists events lane end has = λ other below. has other below ∙ sym (answers_ended lane other events end)
