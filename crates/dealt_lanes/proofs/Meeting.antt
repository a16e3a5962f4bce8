-- Lists of the endpoints of lanes.
use Rattle.std.proofs.Common.{arith, ◌≡◌, ◌⊎◌, inl, inr, ℕ, ◌+◌, ◌≤◌, ◌<◌, List, [], ◌∷◌, ◌++◌, length, get_or, refl, ap, sym, subst, ◌∙◌, length-append}
use Rattle.std.specs.Prelude.{All}
use Rattle.std.proofs.lemmas.Bool.{cases_lt}
use Rattle.std.proofs.lemmas.List.{get_or_append_left, get_or_default}
use Rattle.std.proofs.Math.Seq.{get_or-append_seam}
use Rattle.dealt_lanes.specs.Lanes.{AllThree, HoldsAt}

module _ {A : Type 0} where
  longer : (xs : List A) (x : A) → length (xs ++ x ∷ []) ≡ length xs + 1
  longer xs x = length-append xs (x ∷ [])

  -- an element before the last one
  before : (xs : List A) (x y : A) (i : ℕ) → i < length xs → get_or (xs ++ x ∷ []) i y ≡ get_or xs i y
  before xs x y i below = get_or_append_left xs (x ∷ []) y i below

  -- the last one
  at_end : (xs : List A) (x y : A) (i : ℕ) → i ≡ length xs → get_or (xs ++ x ∷ []) i y ≡ x
  at_end xs x y i is = ap (λ n. get_or (xs ++ x ∷ []) n y) is ∙ get_or-append_seam xs x [] y

module _ {A B C : Type 0} (P : A → B → C → Type 0) where
  same_three : (as' xs : List A) (bs ys : List B) (cs zs : List C) → as' ≡ xs → bs ≡ ys → cs ≡ zs → AllThree P as' bs cs → AllThree P xs ys zs
  same_three as' xs bs ys cs zs e f g all =
      subst (AllThree P xs ys) g (subst (λ q. AllThree P xs q cs) f (subst (λ q. AllThree P q bs cs) e all))

  -- one more element of each list
  pub three_append : (as' xs : List A) (bs ys : List B) (cs zs : List C) (a : A) (b : B) (c : C) → as' ≡ xs ++ a ∷ [] → bs ≡ ys ++ b ∷ []
      → cs ≡ zs ++ c ∷ [] → AllThree P xs ys zs → P a b c → AllThree P as' bs cs
  three_append as' xs bs ys cs zs a b c e f g all one =
      same_three (xs ++ a ∷ []) as' (ys ++ b ∷ []) bs (zs ++ c ∷ []) cs (sym e) (sym f) (sym g) (
        longer ys b ∙ ap (λ n. n + 1) all.0 ∙ sym (longer xs a),
        longer zs c ∙ ap (λ n. n + 1) all.1 ∙ sym (longer xs a),
        λ i below. by i below (cases_lt i (length xs)),
      )
    where
      by : (i : ℕ) → i < length (xs ++ a ∷ []) → (i < length xs) ⊎ (length xs ≤ i) → HoldsAt P (xs ++ a ∷ []) (ys ++ b ∷ []) (zs ++ c ∷ []) i
      by i below (inl inside) =
          let (x, y, z, is_x, is_y, is_z, holds) = all.2 i inside in (
            x,
            y,
            z,
            is_x ∙ sym (before xs a x i inside),
            is_y ∙ sym (before ys b y i (omega (arith, inside, all.0))),
            is_z ∙ sym (before zs c z i (omega (arith, inside, all.1))),
            holds,
          )
      by i below (inr over) =
          let long = longer xs a in
          let is : i ≡ length xs = omega (arith, below, over, long) in
          (a, b, c, sym (at_end xs a a i is), sym (at_end ys b b i (is ∙ sym all.0)), sym (at_end zs c c i (is ∙ sym all.1)), one)

  -- the last element of each list, and those before it
  pub three_last : (as' xs : List A) (bs ys : List B) (cs zs : List C) (a : A) (b : B) (c : C) → as' ≡ xs ++ a ∷ [] → bs ≡ ys ++ b ∷ []
      → cs ≡ zs ++ c ∷ [] → AllThree P as' bs cs → AllThree P xs ys zs × P a b c
  three_last as' xs bs ys cs zs a b c e f g have =
      let all = same_three as' (xs ++ a ∷ []) bs (ys ++ b ∷ []) cs (zs ++ c ∷ []) e f g have in
      let long = longer xs a in
      let of_ys : length ys ≡ length xs = let other = longer ys b in omega (arith, long, other, all.0) in
      let of_zs : length zs ≡ length xs = let other = longer zs c in omega (arith, long, other, all.1) in
      let (x, y, z, is_x, is_y, is_z, holds) = all.2 (length xs) (omega (arith, long)) in (
        (
          of_ys,
          of_zs,
          (λ i below.
              let (p, q, r, is_p, is_q, is_r, one) = all.2 i (omega (arith, long, below)) in (
                p,
                q,
                r,
                is_p ∙ before xs a p i below,
                is_q ∙ before ys b q i (omega (arith, below, of_ys)),
                is_r ∙ before zs c r i (omega (arith, below, of_zs)),
                one,
              )),
        ),
        subst (λ q. P q b c) (is_x ∙ at_end xs a x (length xs) refl) (subst (λ q. P x q c) (is_y ∙ at_end ys b y (length xs) (sym of_ys))
            (subst (P x y) (is_z ∙ at_end zs c z (length xs) (sym of_zs)) holds)),
      )

module _ {A B C : Type 0} where
  -- three lists, of which the first is empty
  pub three_none : (P Q : A → B → C → Type 0) (as' : List A) (bs : List B) (cs : List C) → length as' ≡ 0 → AllThree P as' bs cs → AllThree Q as' bs cs
  three_none P Q as' bs cs none all = (all.0, all.1, λ i below. absurd (omega (arith, none, below)))

  pub three_weaker : (P Q : A → B → C → Type 0) → ((a : A) (b : B) (c : C) → P a b c → Q a b c) → (as' : List A) (bs : List B) (cs : List C)
      → AllThree P as' bs cs → AllThree Q as' bs cs
  three_weaker P Q weaker as' bs cs all =
      (all.0, all.1, λ i below. let (a, b, c, e, f, g, holds) = all.2 i below in (a, b, c, e, f, g, weaker a b c holds))

  -- what holds of the elements of each list
  pub three_each : (P : A → B → C → Type 0) (Q : A → Type 0) (R : B → Type 0) (S : C → Type 0)
      → ((a : A) (b : B) (c : C) → P a b c → Q a × R b × S c) → (as' : List A) (bs : List B) (cs : List C)
      → AllThree P as' bs cs → All Q as' × All R bs × All S cs
  three_each P Q R S split as' bs cs all = (
    (λ i d below.
        let (a, b, c, e, f, g, holds) = all.2 i below in
        subst Q (e ∙ get_or_default as' i a d below) (split a b c holds).0),
    (λ i d below.
        let (a, b, c, e, f, g, holds) = all.2 i (omega (arith, below, all.0)) in
        subst R (f ∙ get_or_default bs i b d below) (split a b c holds).1),
    (λ i d below.
        let (a, b, c, e, f, g, holds) = all.2 i (omega (arith, below, all.1)) in
        subst S (g ∙ get_or_default cs i c d below) (split a b c holds).2),
  )
