-- A word whose first byte is 0 or 255 can be scaled, and an entry that can be scaled has a scaled value.
use Rattle.std.proofs.Common.{◌≡◌, ℕ, zero, suc, ◌-◌, ◌*◌, ◌^◌, ◌<◌, ◌≤◌, ◌==◌, ◌||◌, Bool, true, false, List, [], ◌∷◌, take, drop, Some, w32, arith, refl, sym, subst}
use Rattle.std.specs.Prelude.{slice_index}
use Rattle.std.specs.Int.{cast_signed}
use Rattle.std.proofs.lemmas.Bool.{lt-ltb}
use Rattle.std.proofs.lemmas.Int.{to_z_pos}
use Rattle.std.proofs.Math.Facts.{to_z-neg}
use Rattle.tfm_words.specs.Word.{unsigned_of, value_of}
use Rattle.tfm_words.specs.Scaling.{is_scalable}
use Rattle.tfm_words.specs.declared.table.Table.{Table}
use Rattle.tfm_tables.specs.Table.{entry_at, table_of}
use Rattle.tfm_tables.specs.Measure.{measure_at, measure_of, scaled_entry}
use Rattle.tfm_tables.specs.Sound.{IsScalableEntry}
use Rattle.tfm_tables.specs.Acceptance.{is_measure}

-- every number in a list is a byte: it is below 256
abbrev pub AreBytes : List ℕ → Type 0
AreBytes xs = (k : ℕ) → slice_index xs k < 256

-- the first n elements of a list of bytes are bytes
pub bytes-take : (n : ℕ) (xs : List ℕ) → AreBytes xs → AreBytes (take n xs)
bytes-take zero xs are k = omega arith
bytes-take (suc n) [] are k = omega arith
bytes-take (suc n) (x ∷ xs) are zero = are 0
bytes-take (suc n) (x ∷ xs) are (suc k) = bytes-take n xs (λ j. are (suc j)) k

bytes-drop : (n : ℕ) (xs : List ℕ) → AreBytes xs → AreBytes (drop n xs)
bytes-drop zero xs are k = are k
bytes-drop (suc n) [] are k = are k
bytes-drop (suc n) (x ∷ xs) are k = bytes-drop n xs (λ j. are (suc j)) k

pub bytes-entry_at : (words : List ℕ) (table : Table) (i : ℕ) → AreBytes words → AreBytes (entry_at words table i)
unfolding entry_at table_of
bytes-entry_at words table i are = bytes-take 4 _ (bytes-drop (4 * i) _ (bytes-take _ _ (bytes-drop _ words are)))

-- the number in a word whose first byte is 0 or 255 can be scaled: a lemma for each of the two bytes
low_number : (n : ℕ) → n < 2 ^ 24 → is_scalable (cast_signed w32 n) ≡ true
low_number n small = rw (to_z_pos w32 n (omega arith)) (lt-ltb n (2 ^ 24) small)

high_number : (n : ℕ) → 255 * 2 ^ 24 ≤ n → n < 2 ^ 32 → is_scalable (cast_signed w32 n) ≡ true
high_number n large small =
    let is : n ≡ 2 ^ 32 - suc (2 ^ 32 - suc n) = omega arith in
    let of_number : ℕ → Type 0 = λ m. is_scalable (cast_signed w32 m) ≡ true in
    subst of_number (sym is) (rw (to_z-neg w32 (2 ^ 32 - suc n) (omega arith)) (lt-ltb (2 ^ 32 - suc n) (2 ^ 24) (omega arith)))

-- a word of bytes that is a valid dimension can be scaled
pub scalable_word : (word : List ℕ) → AreBytes word → is_measure word ≡ true → is_scalable (value_of word) ≡ true
unfolding is_measure
scalable_word word are is = by (slice_index word 0 == 0) refl is
  where
    by : (b : Bool) → (slice_index word 0 == 0) ≡ b → (b || (slice_index word 0 == 255)) ≡ true → is_scalable (value_of word) ≡ true
    by true zero_is e = let zeroth : slice_index word 0 ≡ 0 = grind (arith, zero_is) in low_number (unsigned_of word) (omega (arith, zeroth, are 1, are 2, are 3))
    by false other e = let last : slice_index word 0 ≡ 255 = grind (arith, e) in high_number (unsigned_of word) (omega (arith, last, are 1, are 2, are 3)) (omega (arith, last, are 1, are 2, are 3))

-- an entry that can be scaled has a scaled value
pub entry_scaled : (words : List ℕ) (size : ℕ) (table : Table) (i : ℕ) → IsScalableEntry words table i → scaled_entry words size table i ≡ Some (measure_at words size table i)
unfolding measure_of
entry_scaled words size table i can = rw can refl
