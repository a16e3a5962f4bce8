-- Takers from which more results were taken.
use Rattle.std.proofs.Common.{◌≡◌, Bool, true, false, [], ◌∷◌, Option, None, refl, ap, sym, ◌∙◌}
use Rattle.std.specs.Prelude.{is_some, if◌then◌else◌}
use Rattle.std.proofs.lemmas.Bool.{true≢false}
use Rattle.lanes.specs.Ends.{SameTaker, hands_of, taken}
use Rattle.lanes.specs.Takes.{Takes}
use Rattle.lanes.specs.declared.taker.Taker.{Taker}
use Rattle.lanes.specs.declared.took.Took.{Took}
use Rattle.lanes.specs.declared.took.Took.TheVariants.{Nothing, Answer, End}
use Rattle.lanes.specs.declared.ending.LaneEnd.{LaneEnd}
use Rattle.dealt_lanes.specs.Takers.{IsDrained}
use Rattle.dealt_lanes.proofs.SameEnds.{taker_refl, taker_trans}
use Rattle.lanes.proofs.FrontLemmas.{first_front, front_first, front_same, front_trans}

has_ended : (ended : Bool) (ending : Option LaneEnd) → is_some (if ended then ending else None) ≡ true → ended ≡ true
has_ended true ending e = refl
has_ended false ending e = absurd (true≢false (sym e))

module _ {O OS : Type 0} where
  pub drained_refl : (t : Taker O OS) → IsDrained t t
  drained_refl t = (taker_refl t, front_first (taken t) (taken t) (front_same (taken t) (taken t) refl), λ _. refl)

  pub drained_trans : (t u v : Taker O OS) → IsDrained t u → IsDrained u v → IsDrained t v
  drained_trans t u v a b = (
    taker_trans t u v a.0 b.0,
    front_first (taken t) (taken v)
        (front_trans (taken t) (taken u) (taken v) (first_front (taken t) (taken u) a.1) (first_front (taken u) (taken v) b.1)),
    (λ is. b.2 (ap is_some (ap (λ s. if s.ended then s.ending else None) (a.2 is)) ∙ is) ∙ a.2 is),
  )

  -- the taker after a call of `take`
  pub drained_took : (right : O → Type 0) (t u : Taker O OS) (took : Took O) → SameTaker t u → Takes right (hands_of t) took (hands_of u) → IsDrained t u
  drained_took right t u Nothing same takes =
      (same, front_first (taken t) (taken u) (front_same (taken t) (taken u) (ap (λ s. s.taken) takes.0)), λ _. takes.0)
  drained_took right t u (Answer answer) same takes = (
    same,
    front_first (taken t) (taken u) (answer ∷ [], sym takes.3),
    (λ is. absurd (true≢false (sym (has_ended t.ended (hands_of t).ending is) ∙ takes.1))),
  )
  drained_took right t u (End end) same takes = (
    same,
    front_first (taken t) (taken u) (front_same (taken t) (taken u) (ap (λ s. s.taken) takes.2)),
    (λ is. takes.3 (has_ended t.ended (hands_of t).ending is)),
  )
