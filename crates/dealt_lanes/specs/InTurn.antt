-- Items that are dealt over lists in turn, and taken from the lists in the same turn: item j belongs to list j
-- modulo the number of lists.
-- This project's own.
use Rattle.std.specs.Prelude.{◌≡◌, ℕ, zero, suc, ◌+◌, ◌%◌, ◌<◌, nat_eq, List, [], ◌∷◌, length, get_or, set, if◌then◌else◌}
use Rattle.lanes.specs.Rings.{IsFirstOf}

module _ {T : Type 0} where
  -- of items that are dealt over this many lists, where the first item is number `place` of all: those that
  -- belong to one list
  abbrev pub share_from : ℕ → ℕ → ℕ → List T → List T
  share_from lists list place [] = []
  share_from lists list place (item ∷ items) =
      if nat_eq (place % lists) list then item ∷ share_from lists list (place + 1) items else share_from lists list (place + 1) items

  -- of items that are dealt over this many lists, those that belong to one list
  abbrev pub share : ℕ → ℕ → List T → List T
  share lists list items = share_from lists list 0 items

  -- each list consists of its share of these items
  abbrev pub AreShares : List (List T) → List T → Type 0
  AreShares lists items = (i : ℕ) → i < length lists → get_or lists i [] ≡ share (length lists) i items

  -- each list begins with its share of these items
  abbrev pub BeginWithShares : List (List T) → List T → Type 0
  BeginWithShares lists items = (i : ℕ) → i < length lists → IsFirstOf (share (length lists) i items) (get_or lists i [])

  -- the number of items in all lists
  abbrev pub count_all : List (List T) → ℕ
  count_all [] = 0
  count_all (list ∷ lists) = length list + count_all lists

  -- at most so many items, taken from lists in turn, of which the first is number `place` of all: each is the
  -- first one left in the list in turn, and none follows once this list is empty
  abbrev pub turns : ℕ → ℕ → List (List T) → List T
  turns zero place lists = []
  turns (suc most) place lists =
      elim (get_or lists (place % length lists) []) [
        | [] ↦ []
        | item ∷ items ↦ item ∷ turns most (place + 1) (set lists (place % length lists) items)
      ]

  -- the items of lists in turn, from the first list on, up to the first list in turn that is empty
  unfoldable pub in_turn : List (List T) → List T
  in_turn lists = turns (count_all lists) 0 lists

  -- the items of these lists are all in turn, and the list with this number is the next one
  abbrev pub AreInTurn : List (List T) → ℕ → Type 0
  AreInTurn lists turn = AreShares lists (in_turn lists) × (turn ≡ length (in_turn lists) % length lists)

  -- the list with this number is the next one in turn, and it is empty after its items that are in turn; the
  -- other lists may have more items
  abbrev pub StopAt : List (List T) → ℕ → Type 0
  StopAt lists turn =
      BeginWithShares lists (in_turn lists)
      × (turn ≡ length (in_turn lists) % length lists)
      × (get_or lists turn [] ≡ share (length lists) turn (in_turn lists))
