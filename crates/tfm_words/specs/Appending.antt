-- A list while items are appended to it: what stays in front of them, and when the list has no room for them.
-- This project's own.
use Rattle.std.specs.Prelude.{◌≡◌, ℕ, ◌+◌, ◌<◌, List, length, take, vec_capacity, vec_len}
use Rattle.std.specs.Global.{Vec}

-- the items of the list before are still at the front of the list after
abbrev pub StaysInFront : {T : Type 0} → List T → List T → Type 0
StaysInFront before after = take (length before) after ≡ before

-- the capacity of a list is too small for these bytes after its own
abbrev pub HasNoRoomFor : Vec ℕ → List ℕ → Type 0
HasNoRoomFor text more = vec_capacity text < vec_len text + length more
