-- Arrays of the caller, which are filled from the front.
-- This project's own.
use Rattle.std.specs.Prelude.{◌≡◌, ◌≢◌, ◌⊎◌, ℕ, ◌+◌, ◌-◌, ◌^◌, ◌<◌, ◌≤◌, List, [], ◌++◌, length, min, take, drop}

-- a number as the caller gets it; 2^64 - 1 also means any larger number
abbrev pub held : ℕ → ℕ
held n = min n (2 ^ 64 - 1)

-- this many elements fit into an array of this length; the count 2^64 - 1 never fits, because it may mean a
-- larger number
unfoldable pub HasRoom : ℕ → ℕ → Type 0
HasRoom count room = (count ≤ room) × (count < 2 ^ 64 - 1)

-- an array has these elements at its front, and its former contents after them
abbrev pub IsOverlaid : {T : Type 0} → List T → List T → List T → Type 0
IsOverlaid told before after = after ≡ told ++ drop (length told) before

-- the effect of a call that fills arrays: after 0 the elements have room and are in the arrays, and after 3 some have
-- no room; after 0 and 3 the count is this one, and after any other code it is unchanged; after 1 and 4 the arrays
-- are unchanged, too
pub record HasEffect {C : Type 0} (HaveRoom AreIn AreKept : Type 0) (told : C) (answer : ℕ) (before count : C) : Type 0 where
  pub counted : (answer ≡ 0) ⊎ (answer ≡ 3) → count ≡ told
  pub room : answer ≡ 0 → HaveRoom
  pub no_room : answer ≡ 3 → HaveRoom → ⊥
  pub written : answer ≡ 0 → AreIn
  pub kept : answer ≢ 0 → answer ≢ 3 → count ≡ before
  pub untouched : (answer ≡ 1) ⊎ (answer ≡ 4) → AreKept

-- the effect of a call that reports a list: after 0 the list is at the front of the array, and after any other code the
-- array is unchanged; after 0 and 3 the count is the length of the list, and after any other code it is unchanged
pub record IsListed {T : Type 0} (told : List T) (answer count_before count : ℕ) (before array : List T) : Type 0 where
  pub counted : (answer ≡ 0) ⊎ (answer ≡ 3) → count ≡ length told
  pub room : answer ≡ 0 → length told ≤ length before
  pub no_room : answer ≡ 3 → length before < length told
  pub written : answer ≡ 0 → IsOverlaid told before array
  pub kept : answer ≢ 0 → answer ≢ 3 → count ≡ count_before
  pub untouched : answer ≢ 0 → array ≡ before

-- ---- partly filled arrays: this project's own representation, which no definition above uses

-- an array is filled up to an index, and these elements are still to be written
pub record IsPartly {T : Type 0} (told to_come : List T) (at : ℕ) (before now : List T) : Type 0 where
  pub place : ℕ
  pub at_place : at ≡ held place
  pub counted : place + length to_come ≡ length told
  pub same_length : length now ≡ length before
  pub front : HasRoom place (length before) → told ≡ take place now ++ to_come
  pub rest : HasRoom place (length before) → drop place now ≡ drop place before

-- all elements are written, if they have room, and this is their number
abbrev pub IsFilled : {T : Type 0} → List T → ℕ → List T → List T → Type 0
IsFilled told count before after = IsPartly told [] count before after

-- these elements were written into an array, in order
pub record ArePut {T : Type 0} (put : List T) (at at' : ℕ) (now now' : List T) : Type 0 where
  pub further : (told to_come before : List T) → IsPartly told (put ++ to_come) at before now → IsPartly told to_come at' before now'
