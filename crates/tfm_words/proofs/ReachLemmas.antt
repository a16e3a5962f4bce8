-- The counts are in the first 24 bytes: bytes after the words of a file don't change them.
use Rattle.std.proofs.Common.{◌≡◌, ℕ, ◌+◌, ◌*◌, ◌≤◌, ◌<◌, List, take, drop, length, get_or, arith, refl, sym, ◌∙◌, ap, subst}
use Rattle.std.proofs.lemmas.List.{get_or-take, get_or-drop, length-take-le}
use Rattle.tfm_words.specs.declared.numbers.Numbers.{Numbers}
use Rattle.tfm_words.specs.Counts.{count_at, counts_of, AreCountsOf, IsLawful}

byte_of_front : (bytes : List ℕ) (n j i : ℕ) → j + i < n → get_or (drop j (take n bytes)) i 0 ≡ get_or (drop j bytes) i 0
byte_of_front bytes n j i h = get_or-drop j (take n bytes) i 0 ∙ (get_or-take n bytes (j + i) 0 h ∙ sym (get_or-drop j bytes i 0))

count_at-take : (bytes : List ℕ) (n k : ℕ) → 2 * k + 2 ≤ n → count_at (take n bytes) k ≡ count_at bytes k
count_at-take bytes n k h =
    rw (byte_of_front bytes n (2 * k) 0 (omega arith), byte_of_front bytes n (2 * k) 1 (omega arith)) refl

pub counts_of-take : (bytes : List ℕ) (n : ℕ) → 24 ≤ n → counts_of (take n bytes) ≡ counts_of bytes
unfolding counts_of
counts_of-take bytes n h =
    rw (
      count_at-take bytes n 0 (omega arith),
      count_at-take bytes n 1 (omega arith),
      count_at-take bytes n 2 (omega arith),
      count_at-take bytes n 3 (omega arith),
      count_at-take bytes n 4 (omega arith),
      count_at-take bytes n 5 (omega arith),
      count_at-take bytes n 6 (omega arith),
      count_at-take bytes n 7 (omega arith),
      count_at-take bytes n 8 (omega arith),
      count_at-take bytes n 9 (omega arith),
      count_at-take bytes n 10 (omega arith),
      count_at-take bytes n 11 (omega arith),
    ) refl

-- the bytes up to the end of the last table have the same counts
pub reach_of : (bytes : List ℕ) (c : Numbers) → AreCountsOf bytes c → AreCountsOf (take (4 * c.lf) bytes) c
reach_of bytes c are =
    let of_bytes : Numbers → Type 0 = λ n. IsLawful n in
    let lawful : IsLawful c = subst of_bytes (sym are.value) are.lawful.lawful in
    let lf : (counts_of bytes).lf ≡ c.lf = ap (λ (n : Numbers). n.lf) (sym are.value) in
    let long : 24 ≤ 4 * c.lf = omega (arith, lawful.whole) in
    let fits : 4 * c.lf ≤ length bytes = omega (arith, are.lawful.whole, lf) in
    let whole : length (take (4 * c.lf) bytes) ≡ 4 * c.lf = length-take-le (4 * c.lf) bytes fits in
    let front : counts_of (take (4 * c.lf) bytes) ≡ c = counts_of-take bytes (4 * c.lf) long ∙ sym are.value in
    record {
      value = sym front;
      lawful = record { head = omega (arith, whole, long); lawful = subst of_bytes (sym front) lawful; whole = omega (arith, whole, ap (λ (n : Numbers). n.lf) front) };
    }
