-- Setters that several workers were given, and from which they are taken back.
use Rattle.std.proofs.Common.{arith, ◌≡◌, ℕ, zero, suc, ◌+◌, ◌%◌, ◌<◌, List, [], ◌∷◌, ◌++◌, length, get_or, refl, ap, sym, subst, ◌∙◌, length-append}
use Rattle.std.specs.Prelude.{set}
use Rattle.std.proofs.lemmas.List.{get_or-set_same, length-set}
use Rattle.batch.specs.Workers.{CanTake, HasOneMore, HaveMore}

module _ {T : Type 0} where
  pub one_length : (worker : ℕ) (s : T) (before after : List (List T)) → HasOneMore worker s before after → length after ≡ length before
  one_length worker s before after one = ap length one.1 ∙ length-set before worker (get_or before worker [] ++ s ∷ [])

  -- as many workers as before
  pub more_length : (first : ℕ) (ss : List T) (before after : List (List T)) → HaveMore first ss before after → length after ≡ length before
  more_length first [] before after have = ap length have
  more_length first (s ∷ ss) before after (between, have, one) =
      one_length (first % length between) s between after one ∙ more_length (first + 1) ss before between have

  init_same : (x y : List T) (s t : T) → x ++ s ∷ [] ≡ y ++ t ∷ [] → x ≡ y
  init_same [] [] s t e = refl
  init_same [] (b ∷ y) s t e = absurd (let long = length-append y (t ∷ []) in let same = ap length e in omega (arith, long, same))
  init_same (a ∷ x) [] s t e = absurd (let long = length-append x (s ∷ []) in let same = ap length e in omega (arith, long, same))
  init_same (a ∷ x) (b ∷ y) s t e =
      let head : a ≡ b = grind (arith, e) in
      let tail : x ++ s ∷ [] ≡ y ++ t ∷ [] = grind (arith, e) in
      ap (λ z. z ∷ x) head ∙ ap (λ z. b ∷ z) (init_same x y s t tail)

  before_same : (xs ys : List (List T)) (i : ℕ) (s t : T) → i < length xs → i < length ys
      → set xs i (get_or xs i [] ++ s ∷ []) ≡ set ys i (get_or ys i [] ++ t ∷ []) → xs ≡ ys
  before_same [] ys i s t a b e = absurd (omega (arith, a))
  before_same (x ∷ xs) [] i s t a b e = absurd (omega (arith, b))
  before_same (x ∷ xs) (y ∷ ys) zero s t a b e =
      let head : x ++ s ∷ [] ≡ y ++ t ∷ [] = grind (arith, e) in
      let tail : xs ≡ ys = grind (arith, e) in
      ap (λ z. z ∷ xs) (init_same x y s t head) ∙ ap (λ z. y ∷ z) tail
  before_same (x ∷ xs) (y ∷ ys) (suc i) s t a b e =
      let head : x ≡ y = grind (arith, e) in
      let tail : set xs i (get_or xs i [] ++ s ∷ []) ≡ set ys i (get_or ys i [] ++ t ∷ []) = grind (arith, e) in
      ap (λ z. z ∷ xs) head ∙ ap (λ z. y ∷ z) (before_same xs ys i s t (omega (arith, a)) (omega (arith, b)) tail)

  -- the last setter of a worker is taken back
  pub back_at_index : (workers : List (List T)) (i : ℕ) (init : List T) (s : T) → i < length workers → get_or workers i [] ≡ init ++ s ∷ []
      → workers ≡ set (set workers i init) i (get_or (set workers i init) i [] ++ s ∷ [])
  back_at_index [] i init s below is = absurd (omega (arith, below))
  back_at_index (h ∷ hs) zero init s below is = ap (λ x. x ∷ hs) is
  back_at_index (h ∷ hs) (suc i) init s below is = ap (λ xs. h ∷ xs) (back_at_index hs i init s (omega (arith, below)) is)

  -- one more setter was taken back
  pub more_append : (first : ℕ) (taken : List T) (s : T) (now' now initial : List (List T)) → HaveMore first taken now initial
      → HasOneMore ((first + length taken) % length now') s now' now → HaveMore first (taken ++ s ∷ []) now' initial
  more_append first [] s now' now initial have one =
      let start : first + 0 ≡ first = omega arith in
      (now', refl, subst (λ w. HasOneMore (first % length now') s now' w) (sym have) (subst (λ n. HasOneMore (n % length now') s now' now) start one))
  more_append first (t ∷ taken) s now' now initial (between, have, last) one =
      let count : first + length (t ∷ taken) ≡ first + 1 + length taken = omega arith in
      (between, more_append (first + 1) taken s now' now between have (subst (λ n. HasOneMore (n % length now') s now' now) count one), last)

  no_end : (x : List T) (s : T) → x ++ s ∷ [] ≡ [] → ⊥
  no_end x s e = let long = length-append x (s ∷ []) in let same = ap length e in omega (arith, long, same)

  -- there is a worker, which has a setter
  pub can_take_some : (lane n m : ℕ) (workers : List (List T)) → n ≡ m + 1 → CanTake lane n workers
      → (0 < length workers) × (get_or workers (lane % length workers) [] ≡ [] → ⊥)
  can_take_some lane n m workers next ([], before, long, have) = absurd (omega (arith, long, next))
  can_take_some lane n m workers next (s ∷ rest, before, long, (between, have, one)) =
      let same = one_length (lane % length between) s between workers one in (
        omega (arith, same, one.0),
        (λ none.
            no_end (get_or between (lane % length between) []) s
            (sym (get_or-set_same between (lane % length between) (get_or between (lane % length between) [] ++ s ∷ []) [] one.0)
            ∙ ap (λ w. get_or w (lane % length between) []) (sym one.1) ∙ ap (λ k. get_or workers (lane % k) []) (sym same) ∙ none)),
      )

  -- a setter was taken back, and the others still can be
  pub can_take_next : (lane n m : ℕ) (workers new : List (List T)) (t : T) → n ≡ m + 1 → CanTake lane n workers
      → HasOneMore (lane % length workers) t new workers → CanTake (lane + 1) m new
  can_take_next lane n m workers new t next ([], before, long, have) took = absurd (omega (arith, long, next))
  can_take_next lane n m workers new t next (s ∷ rest, before, long, (between, have, one)) took =
      let same = one_length (lane % length between) s between workers one in
      let here : HasOneMore (lane % length between) t new workers = subst (λ k. HasOneMore (lane % k) t new workers) same took in
      let is : new ≡ between = before_same new between (lane % length between) t s here.0 one.0 (sym here.1 ∙ one.1) in
      (rest, before, omega (arith, long, next), subst (HaveMore (lane + 1) rest before) (sym is) have)

  pub taken_next : (first lane : ℕ) (taken more : List T) (s : T) (new now initial : List (List T)) → HaveMore first taken now initial
      → first + length taken ≡ lane → more ≡ taken ++ s ∷ [] → HasOneMore (lane % length now) s new now → HaveMore first more new initial
  taken_next first lane taken more s new now initial have count is one =
      let same = one_length (lane % length now) s new now one in
      subst (λ l. HaveMore first l new initial) (sym is)
      (more_append first taken s new now initial have
      (subst (λ n. HasOneMore (n % length new) s new now) (sym count) (subst (λ k. HasOneMore (lane % k) s new now) same one)))

  -- the setters that are taken back are those that were given
  pub given_same : (first : ℕ) (ss ts : List T) (b c after : List (List T)) → length ss ≡ length ts → HaveMore first ss b after → HaveMore first ts c after
      → (ss ≡ ts) × (b ≡ c)
  given_same first [] [] b c after long x y = (refl, sym x ∙ y)
  given_same first [] (t ∷ ts) b c after long x y = absurd (omega (arith, long))
  given_same first (s ∷ ss) [] b c after long x y = absurd (omega (arith, long))
  given_same first (s ∷ ss) (t ∷ ts) b c after long (m, x, one) (n, y, two) =
      let left = one_length (first % length m) s m after one in
      let right = one_length (first % length n) t n after two in
      let two' : HasOneMore (first % length m) t n after = subst (λ k. HasOneMore (first % k) t n after) (sym right ∙ left) two in
      let is : m ≡ n = before_same m n (first % length m) s t one.0 two'.0 (sym one.1 ∙ two'.1) in
      let head : s ≡ t = last_same m n (first % length m) s t is one.0 (sym one.1 ∙ two'.1) in
      let rest = given_same (first + 1) ss ts b c m (omega (arith, long)) x (subst (HaveMore (first + 1) ts c) (sym is) y) in
      (ap (λ z. z ∷ ss) head ∙ ap (λ z. t ∷ z) rest.0, rest.1)
    where
      final_same : (x : List T) (s t : T) → x ++ s ∷ [] ≡ x ++ t ∷ [] → s ≡ t
      final_same [] s t e = grind (arith, e)
      final_same (a ∷ x) s t e = final_same x s t (grind (arith, e))

      last_same : (xs ys : List (List T)) (i : ℕ) (s t : T) → xs ≡ ys → i < length xs
          → set xs i (get_or xs i [] ++ s ∷ []) ≡ set ys i (get_or ys i [] ++ t ∷ []) → s ≡ t
      last_same xs ys i s t is below e =
          let own : set xs i (get_or xs i [] ++ s ∷ []) ≡ set xs i (get_or xs i [] ++ t ∷ []) =
          subst (λ z. set xs i (get_or xs i [] ++ s ∷ []) ≡ set z i (get_or z i [] ++ t ∷ [])) (sym is) e in
          final_same (get_or xs i []) s t
          (sym (get_or-set_same xs i (get_or xs i [] ++ s ∷ []) [] below) ∙ ap (λ z. get_or z i []) own
          ∙ get_or-set_same xs i (get_or xs i [] ++ t ∷ []) [] below)

module _ {A : Type 0} where
  pub first_same : (all xs ys : List A) (x y : A) → all ≡ x ∷ xs → all ≡ y ∷ ys → x ≡ y
  first_same all xs ys x y e f = let both : x ∷ xs ≡ y ∷ ys = sym e ∙ f in grind (arith, both)
