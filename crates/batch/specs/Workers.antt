-- The setters of the lanes, worker by worker.
-- This project's own.
use Rattle.std.specs.Prelude.{◌≡◌, ◌<◌, ◌%◌, ◌+◌, ℕ, List, [], ◌∷◌, ◌++◌, length, get_or, set}

module _ {T : Type 0} where
  -- the worker with this number has one more setter, as its last one, and the other workers are unchanged
  abbrev pub HasOneMore : ℕ → T → List (List T) → List (List T) → Type 0
  HasOneMore worker setter before after =
      (worker < length before) × (after ≡ set before worker (get_or before worker [] ++ setter ∷ []))

  -- the workers have these setters more: the first one belongs to the lane with this number, and each later one
  -- to the next lane. The last one was appended first
  abbrev pub HaveMore : ℕ → List T → List (List T) → List (List T) → Type 0
  HaveMore first [] before after = after ≡ before
  HaveMore first (setter ∷ setters) before after =
      (between : List (List T)) × HaveMore (first + 1) setters before between × HasOneMore (first % length between) setter between after

  -- so many setters can be taken back, of which the first belongs to the lane with this number
  abbrev pub CanTake : ℕ → ℕ → List (List T) → Type 0
  CanTake first count workers =
      (setters : List T) × (before : List (List T)) × (length setters ≡ count) × HaveMore first setters before workers
