-- What is dealt over lists comes back in turn.
use Rattle.std.proofs.Common.{arith, rules, ◌≡◌, ℕ, zero, suc, ◌+◌, ◌%◌, ◌<◌, ◌≤◌, Bool, true, false, nat_eq, List, [], ◌∷◌, ◌++◌, length, get_or, refl, ap, sym, subst, ◌∙◌, append-nil}
use Rattle.std.specs.Prelude.{set}
use Rattle.std.proofs.lemmas.Nat.{mod_below}
use Rattle.std.proofs.lemmas.Bool.{true≢false}
use Rattle.std.proofs.lemmas.List.{get_or-set_same, get_or-set_other, length-set}
use Rattle.lanes.proofs.FrontLemmas.{IsFront, first_front}
use Rattle.dealt_lanes.specs.InTurn.{share_from, share, BeginWithShares, count_all, turns, in_turn}

itself : (n : ℕ) → nat_eq n n ≡ true
itself n = search rules

pub equal : (m n : ℕ) → nat_eq m n ≡ true → m ≡ n
equal m n e = search (rules, e)

pub unequal : (m n : ℕ) → nat_eq m n ≡ false → n ≡ m → ⊥
unequal m n e is = true≢false (sym (itself m) ∙ ap (nat_eq m) (sym is) ∙ e)

module _ {T : Type 0} where
  no_front : (x : T) (xs : List T) → IsFront (x ∷ xs) [] → ⊥
  no_front x xs (rest, e) = grind (arith, e)

  tails : (x y : T) (xs ys : List T) → IsFront (x ∷ xs) (y ∷ ys) → (x ≡ y) × IsFront xs ys
  tails x y xs ys (rest, e) = (grind (arith, e), (rest, grind (arith, e)))

  -- ---- the share of one list

  pub here : (k i j : ℕ) (x : T) (xs : List T) → nat_eq (j % k) i ≡ true → share_from k i j (x ∷ xs) ≡ x ∷ share_from k i (j + 1) xs
  here k i j x xs e = rw e refl

  pub there : (k i j : ℕ) (x : T) (xs : List T) → nat_eq (j % k) i ≡ false → share_from k i j (x ∷ xs) ≡ share_from k i (j + 1) xs
  there k i j x xs e = rw e refl

  pub share-append : (k i j : ℕ) (xs ys : List T) → share_from k i j (xs ++ ys) ≡ share_from k i j xs ++ share_from k i (j + length xs) ys
  share-append k i j [] ys = let start : j + 0 ≡ j = omega arith in rw start refl
  share-append k i j (x ∷ xs) ys =
      let next : j + 1 + length xs ≡ j + length (x ∷ xs) = omega arith in
      by (nat_eq (j % k) i) refl (share-append k i (j + 1) xs ys ∙ ap (λ n. share_from k i (j + 1) xs ++ share_from k i n ys) next)
    where
      by : (b : Bool) → nat_eq (j % k) i ≡ b
          → share_from k i (j + 1) (xs ++ ys) ≡ share_from k i (j + 1) xs ++ share_from k i (j + length (x ∷ xs)) ys
          → share_from k i j (x ∷ (xs ++ ys)) ≡ share_from k i j (x ∷ xs) ++ share_from k i (j + length (x ∷ xs)) ys
      by true e more = here k i j x (xs ++ ys) e ∙ ap (λ l. x ∷ l) more ∙ ap (λ l. l ++ share_from k i (j + length (x ∷ xs)) ys) (sym (here k i j x xs e))
      by false e more = there k i j x (xs ++ ys) e ∙ more ∙ ap (λ l. l ++ share_from k i (j + length (x ∷ xs)) ys) (sym (there k i j x xs e))

  -- one more item, for the list in turn
  pub share-here : (k i : ℕ) (xs : List T) (x : T) → nat_eq (length xs % k) i ≡ true → share k i (xs ++ x ∷ []) ≡ share k i xs ++ x ∷ []
  share-here k i xs x e =
      let start : 0 + length xs ≡ length xs = omega arith in
      share-append k i 0 xs (x ∷ []) ∙ ap (λ l. share k i xs ++ l) (rw start (here k i (length xs) x [] e))

  -- one more item, for another list
  pub share-there : (k i : ℕ) (xs : List T) (x : T) → nat_eq (length xs % k) i ≡ false → share k i (xs ++ x ∷ []) ≡ share k i xs
  share-there k i xs x e =
      let start : 0 + length xs ≡ length xs = omega arith in
      share-append k i 0 xs (x ∷ []) ∙ ap (λ l. share k i xs ++ l) (rw start (there k i (length xs) x [] e)) ∙ append-nil (share k i xs)

  -- if each share of some items is a front of the share of others, the items are a front of the others
  pub fronts : (k j : ℕ) (xs ys : List T) → 0 < k → ((i : ℕ) → i < k → IsFront (share_from k i j xs) (share_from k i j ys)) → IsFront xs ys
  fronts k j [] ys some all = (ys, refl)
  fronts k j (x ∷ xs) [] some all =
      absurd (no_front x (share_from k (j % k) (j + 1) xs)
      (subst (λ l. IsFront l []) (here k (j % k) j x xs (itself (j % k))) (all (j % k) (mod_below j k some))))
  fronts k j (x ∷ xs) (y ∷ ys) some all =
      let now = tails x y (share_from k (j % k) (j + 1) xs) (share_from k (j % k) (j + 1) ys)
      (subst (λ l. IsFront l (y ∷ share_from k (j % k) (j + 1) ys)) (here k (j % k) j x xs (itself (j % k)))
      (subst (λ l. IsFront (share_from k (j % k) j (x ∷ xs)) l) (here k (j % k) j y ys (itself (j % k))) (all (j % k) (mod_below j k some)))) in
      let (rest, e) = fronts k (j + 1) xs ys some (λ i below. by i (nat_eq (j % k) i) refl now.1 (all i below)) in
      (rest, ap (λ l. x ∷ l) e ∙ ap (λ h. h ∷ ys) now.0)
    where
      by : (i : ℕ) (b : Bool) → nat_eq (j % k) i ≡ b → IsFront (share_from k (j % k) (j + 1) xs) (share_from k (j % k) (j + 1) ys)
          → IsFront (share_from k i j (x ∷ xs)) (share_from k i j (y ∷ ys)) → IsFront (share_from k i (j + 1) xs) (share_from k i (j + 1) ys)
      by i true e now front = subst (λ q. IsFront (share_from k q (j + 1) xs) (share_from k q (j + 1) ys)) (equal (j % k) i e) now
      by i false e now front =
          subst (λ l. IsFront l (share_from k i (j + 1) ys)) (there k i j x xs e)
          (subst (λ l. IsFront (share_from k i j (x ∷ xs)) l) (there k i j y ys e) front)

  -- ---- lists

  count_less : (lists : List (List T)) (i : ℕ) (item : T) (rest : List T) → get_or lists i [] ≡ item ∷ rest
      → count_all (set lists i rest) + 1 ≡ count_all lists
  count_less [] i item rest is = absurd (grind (arith, is))
  count_less (l ∷ lists) zero item rest is = let one : length l ≡ length rest + 1 = ap length is ∙ omega arith in omega (arith, one)
  count_less (l ∷ lists) (suc i) item rest is = let more = count_less lists i item rest is in omega (arith, more)

  -- ---- the items in turn are known by their shares

  -- items whose shares the lists begin with, where the list in turn after them is empty, are the items in turn
  turns_are : (most j : ℕ) (lists : List (List T)) (items : List T) → 0 < length lists → count_all lists ≤ most
      → ((i : ℕ) → i < length lists → IsFront (share_from (length lists) i j items) (get_or lists i []))
      → get_or lists ((j + length items) % length lists) [] ≡ share_from (length lists) ((j + length items) % length lists) j items
      → turns most j lists ≡ items
  turns_are zero j lists [] some few begin stop = refl
  turns_are (suc most) j lists [] some few begin stop =
      let at : j + 0 ≡ j = omega arith in
      let none : get_or lists (j % length lists) [] ≡ [] = subst (λ n. get_or lists (n % length lists) [] ≡ []) at stop in
      rw (none, turns) refl
  turns_are zero j lists (x ∷ xs) some few begin stop =
      let k : ℕ = length lists in
      let (r, e) = subst (λ l. IsFront l (get_or lists (j % k) [])) (here k (j % k) j x xs (itself (j % k))) (begin (j % k) (mod_below j k some)) in
      let one = count_less lists (j % k) x (share_from k (j % k) (j + 1) xs ++ r) (sym e) in
      absurd (omega (arith, one, few))
  turns_are (suc most) j lists (x ∷ xs) some few begin stop =
      let k : ℕ = length lists in
      let at : ℕ = j % k in
      let (r, e) = subst (λ l. IsFront l (get_or lists at [])) (here k at j x xs (itself at)) (begin at (mod_below j k some)) in
      let rest : List T = share_from k at (j + 1) xs ++ r in
      let is : get_or lists at [] ≡ x ∷ rest = sym e in
      let one = count_less lists at x rest is in
      let long : length (set lists at rest) ≡ k = length-set lists at rest in
      let end : j + length (x ∷ xs) ≡ j + 1 + length xs = omega arith in
      let more : turns most (j + 1) (set lists at rest) ≡ xs =
      turns_are most (j + 1) (set lists at rest) xs (omega (arith, long, some)) (omega (arith, one, few))
      (λ i within. subst (λ n. IsFront (share_from n i (j + 1) xs) (get_or (set lists at rest) i [])) (sym long)
      (begins i (nat_eq at i) refl r is (begin i (omega (arith, long, within)))))
      (subst (λ n. get_or (set lists at rest) ((j + 1 + length xs) % n) [] ≡ share_from n ((j + 1 + length xs) % n) (j + 1) xs) (sym long)
      (stops ((j + 1 + length xs) % k) (nat_eq at ((j + 1 + length xs) % k)) refl r is
      (subst (λ n. get_or lists (n % k) [] ≡ share_from k (n % k) j (x ∷ xs)) end stop)))
      in rw (is, turns) (ap (λ l. x ∷ l) more)
    where
      below : j % length lists < length lists
      below = mod_below j (length lists) some

      begins : (i : ℕ) (b : Bool) → nat_eq (j % length lists) i ≡ b → (r : List T)
          → get_or lists (j % length lists) [] ≡ x ∷ (share_from (length lists) (j % length lists) (j + 1) xs ++ r)
          → IsFront (share_from (length lists) i j (x ∷ xs)) (get_or lists i [])
          → IsFront (share_from (length lists) i (j + 1) xs)
          (get_or (set lists (j % length lists) (share_from (length lists) (j % length lists) (j + 1) xs ++ r)) i [])
      begins i true e r is front =
          subst (λ n. IsFront (share_from (length lists) n (j + 1) xs)
          (get_or (set lists (j % length lists) (share_from (length lists) (j % length lists) (j + 1) xs ++ r)) n [])) (equal (j % length lists) i e)
          (r, sym (get_or-set_same lists (j % length lists) (share_from (length lists) (j % length lists) (j + 1) xs ++ r) [] below))
      begins i false e r is front =
          subst (λ l. IsFront (share_from (length lists) i (j + 1) xs) l)
          (sym (get_or-set_other lists (j % length lists) i (share_from (length lists) (j % length lists) (j + 1) xs ++ r) [] (unequal (j % length lists) i e)))
          (subst (λ l. IsFront l (get_or lists i [])) (there (length lists) i j x xs e) front)

      stops : (i : ℕ) (b : Bool) → nat_eq (j % length lists) i ≡ b → (r : List T)
          → get_or lists (j % length lists) [] ≡ x ∷ (share_from (length lists) (j % length lists) (j + 1) xs ++ r)
          → get_or lists i [] ≡ share_from (length lists) i j (x ∷ xs)
          → get_or (set lists (j % length lists) (share_from (length lists) (j % length lists) (j + 1) xs ++ r)) i []
          ≡ share_from (length lists) i (j + 1) xs
      stops i true e r is all =
          let had : get_or lists i [] ≡ x ∷ (share_from (length lists) (j % length lists) (j + 1) xs ++ r) =
          subst (λ n. get_or lists n [] ≡ x ∷ (share_from (length lists) (j % length lists) (j + 1) xs ++ r)) (equal (j % length lists) i e) is in
          let both : x ∷ (share_from (length lists) (j % length lists) (j + 1) xs ++ r) ≡ x ∷ share_from (length lists) i (j + 1) xs =
          sym had ∙ all ∙ here (length lists) i j x xs e in
          subst (λ n. get_or (set lists n (share_from (length lists) (j % length lists) (j + 1) xs ++ r)) i [] ≡ share_from (length lists) i (j + 1) xs)
          (sym (equal (j % length lists) i e))
          (get_or-set_same lists i (share_from (length lists) (j % length lists) (j + 1) xs ++ r) [] (subst (λ n. n < length lists) (equal (j % length lists) i e) below)
          ∙ grind (arith, both))
      stops i false e r is all =
          get_or-set_other lists (j % length lists) i (share_from (length lists) (j % length lists) (j + 1) xs ++ r) [] (unequal (j % length lists) i e)
          ∙ all ∙ there (length lists) i j x xs e

  pub in_turn_are : (lists : List (List T)) (items : List T) → 0 < length lists → BeginWithShares lists items
      → get_or lists (length items % length lists) [] ≡ share (length lists) (length items % length lists) items
      → in_turn lists ≡ items
  unfolding in_turn
  in_turn_are lists items some begin stop =
      let start : 0 + length items ≡ length items = omega arith in
      turns_are (count_all lists) 0 lists items some (omega arith) (λ i within. first_front (share (length lists) i items) (get_or lists i []) (begin i within))
      (rw start stop)
