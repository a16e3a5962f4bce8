-- Endpoints of the same lane.
use Rattle.std.proofs.Common.{rules, ◌≡◌, ℕ, ◌<◌, Bool, false, List, length, get_or, refl, ap, sym, subst, ◌∙◌}
use Rattle.std.proofs.lemmas.Bool.{true≢false}
use Rattle.std.proofs.lemmas.List.Elements.{All-get_or, All-set}
use Rattle.lanes.specs.declared.ending.SourceEnd.{SourceEnd}
use Rattle.dealt_lanes.specs.Feeders.{HaveEnd}
use Rattle.std.specs.Prelude.{set, true, Option, Some, None, is_some}
use Rattle.lanes.specs.Messages.{first_end}
use Rattle.lanes.specs.Ends.{IsAsFed, IsClosedWith, SameFeeder, SameTaker, feeder_end}
use Rattle.lanes.specs.declared.feeder.Feeder.{Feeder}
use Rattle.lanes.specs.declared.taker.Taker.{Taker}

module _ {I IS : Type 0} where
  pub feeder_refl : (f : Feeder I IS) → SameFeeder f f
  feeder_refl f = grind rules

  pub feeder_trans : (f g h : Feeder I IS) → SameFeeder f g → SameFeeder g h → SameFeeder f h
  feeder_trans f g h a b = grind (rules, a, b)

module _ {O OS : Type 0} where
  pub taker_refl : (t : Taker O OS) → SameTaker t t
  taker_refl t = grind rules

  pub taker_trans : (t u v : Taker O OS) → SameTaker t u → SameTaker u v → SameTaker t v
  taker_trans t u v a b = grind (rules, a, b)

module _ {I IS : Type 0} where
  -- one feeder changes, and has the end if it is closed
  pub ends_set : (end : Option SourceEnd) (feeders : List (Feeder I IS)) (i : ℕ) (new : Feeder I IS)
      → (is_some (feeder_end new) ≡ true → feeder_end new ≡ end) → HaveEnd end feeders → HaveEnd end (set feeders i new)
  ends_set end feeders i new is have = All-set (λ f. is_some (feeder_end f) ≡ true → feeder_end f ≡ end) feeders i new is have

  pub ends_at : (end : Option SourceEnd) (feeders : List (Feeder I IS)) (i : ℕ) (f : Feeder I IS) → f ≡ get_or feeders i f → i < length feeders
      → HaveEnd end feeders → is_some (feeder_end f) ≡ true → feeder_end f ≡ end
  ends_at end feeders i f at below have =
      subst (λ x. is_some (feeder_end x) ≡ true → feeder_end x ≡ end) (sym at)
      (All-get_or (λ x. is_some (feeder_end x) ≡ true → feeder_end x ≡ end) feeders i f below have)

  -- one feeder changes, and keeps its end
  pub ends_kept : (end : Option SourceEnd) (feeders : List (Feeder I IS)) (i : ℕ) (old new : Feeder I IS) → old ≡ get_or feeders i old
      → i < length feeders → feeder_end new ≡ feeder_end old → HaveEnd end feeders → HaveEnd end (set feeders i new)
  ends_kept end feeders i old new at below same have =
      ends_set end feeders i new
      (subst (λ e. is_some e ≡ true → e ≡ end) (sym same) (ends_at end feeders i old at below have)) have

-- a closed feeder keeps its end, and any other gets this one
pub closed_end : (end : SourceEnd) (old new : Option SourceEnd) → (is_some old ≡ true → old ≡ Some end) → new ≡ first_end old (Some end)
    → new ≡ Some end
closed_end end None new had is = is
closed_end end (Some first) new had is = is ∙ had refl

module _ {I IS : Type 0} where
  -- a feeder that is to be closed has this end if it is closed
  pub closes : (end : SourceEnd) (old new : Feeder I IS) (done : Bool) → (is_some (feeder_end old) ≡ true → feeder_end old ≡ Some end)
      → (done ≡ true → IsClosedWith old end new) → (done ≡ false → (feeder_end old ≡ None) × IsAsFed old new)
      → is_some (feeder_end new) ≡ true → feeder_end new ≡ Some end
  closes end old new true had closed kept is = closed_end end (feeder_end old) (feeder_end new) had (closed refl).0
  closes end old new false had closed kept is =
      absurd (true≢false (sym is ∙ ap is_some ((kept refl).1.2 ∙ (kept refl).0)))
