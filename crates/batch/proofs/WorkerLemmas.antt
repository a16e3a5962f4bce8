-- Setters that are given to workers, and taken back.
use Rattle.std.proofs.Common.{rules, arith, ◌≡◌, ℕ, zero, suc, ◌<◌, List, [], ◌∷◌, ◌++◌, length, get_or, Option, Some, None, ap, sym, ◌∙◌}
use Rattle.std.specs.Prelude.{set, MatchOption}
use Rattle.batch.specs.Workers.{HasOneMore}

module _ {T : Type 0} where
  -- what stands at a place, whatever is said if none is
  at_place : (workers : List (List T)) (i : ℕ) (worker : List T) → i < length workers → worker ≡ get_or workers i worker → get_or workers i [] ≡ worker
  at_place [] i worker below at = absurd (omega (arith, below))
  at_place (h ∷ hs) zero worker below at = sym at
  at_place (h ∷ hs) (suc i) worker below at = at_place hs i worker (omega (arith, below)) at

  back_at_place : (workers : List (List T)) (i : ℕ) (old new : List T) (s : T) → i < length workers → old ≡ get_or workers i old
      → old ≡ new ++ s ∷ [] → workers ≡ set (set workers i new) i (get_or (set workers i new) i [] ++ s ∷ [])
  back_at_place [] i old new s below at is = absurd (omega (arith, below))
  back_at_place (h ∷ hs) zero old new s below at is = ap (λ x. x ∷ hs) (sym at ∙ is)
  back_at_place (h ∷ hs) (suc i) old new s below at is = ap (λ xs. h ∷ xs) (back_at_place hs i old new s (omega (arith, below)) at is)

  -- a worker's last setter is taken back
  pub took_back : (workers : List (List T)) (i : ℕ) (old new : List T) (took : Option T) → i < length workers
      → old ≡ get_or workers i old → MatchOption took (old ≡ []) (λ s. old ≡ new ++ s ∷ [])
      → MatchOption took (get_or workers i [] ≡ []) (λ s. HasOneMore i s (set workers i new) workers)
  took_back workers i old new None below at is = at_place workers i old below at ∙ is
  took_back workers i old new (Some s) below at is = (grind (rules, below), back_at_place workers i old new s below at is)
