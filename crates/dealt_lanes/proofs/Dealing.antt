-- One more item is dealt to the list in turn, or was taken from it.
use Rattle.std.proofs.Common.{arith, ◌≡◌, ℕ, suc, ◌+◌, ◌%◌, ◌<◌, Bool, true, false, nat_eq, List, [], ◌∷◌, ◌++◌, length, map, get_or, refl, ap, sym, subst, ◌∙◌, length-append}
use Rattle.std.specs.Prelude.{set}
use Rattle.std.proofs.lemmas.Nat.{mod_below}
use Rattle.std.proofs.lemmas.List.{get_or-set_same, get_or-set_other, map-set, length-map, length-set}
use Rattle.std.proofs.Math.Nat.{suc-mod}
use Rattle.lanes.proofs.FrontLemmas.{front_first, front_same}
use Rattle.dealt_lanes.specs.InTurn.{AreInTurn, AreShares, StopAt, in_turn, share}
use Rattle.dealt_lanes.proofs.Zips.{map_at}
use Rattle.dealt_lanes.proofs.Shares.{equal, unequal, in_turn_are, share-here, share-there}

-- ---- the list in turn

next_turn : (n m k : ℕ) → m ≡ n % k → (m + 1) % k ≡ (n + 1) % k
next_turn n m k e =
    let one : n + 1 ≡ suc n = omega arith in
    let up : m + 1 ≡ suc m = omega arith in
    rw (up, one, e) (sym (suc-mod n k))

module _ {T : Type 0} where
  -- lists that consist of shares have these items in turn
  pub in_turn_shares : (lists : List (List T)) (items : List T) → 0 < length lists → AreShares lists items → in_turn lists ≡ items
  in_turn_shares lists items some have =
      in_turn_are lists items some
      (λ i within. front_first (share (length lists) i items) (get_or lists i []) (front_same (share (length lists) i items) (get_or lists i []) (have i within)))
      (have (length items % length lists) (mod_below (length items) (length lists) some))

  shares_next : (lists : List (List T)) (items : List T) (item : T) (at : ℕ) → at < length lists → at ≡ length items % length lists
      → AreShares lists items → AreShares (set lists at (get_or lists at [] ++ item ∷ [])) (items ++ item ∷ [])
  shares_next lists items item at below turn have =
      let long = length-set lists at (get_or lists at [] ++ item ∷ []) in
      λ i within. subst (λ n. get_or (set lists at (get_or lists at [] ++ item ∷ [])) i [] ≡ share n i (items ++ item ∷ [])) (sym long)
      (by i (nat_eq at i) refl (have i (subst (λ n. i < n) long within)))
    where
      by : (i : ℕ) (b : Bool) → nat_eq at i ≡ b → get_or lists i [] ≡ share (length lists) i items
          → get_or (set lists at (get_or lists at [] ++ item ∷ [])) i [] ≡ share (length lists) i (items ++ item ∷ [])
      by i true e had =
          let is = equal at i e in
          subst (λ n. get_or (set lists n (get_or lists n [] ++ item ∷ [])) i [] ≡ share (length lists) i (items ++ item ∷ [])) (sym is)
          (get_or-set_same lists i (get_or lists i [] ++ item ∷ []) [] (subst (λ n. n < length lists) is below)
          ∙ ap (λ l. l ++ item ∷ []) had ∙ sym (share-here (length lists) i items item (subst (λ n. nat_eq n i ≡ true) turn e)))
      by i false e had =
          get_or-set_other lists at i (get_or lists at [] ++ item ∷ []) [] (unequal at i e)
          ∙ had ∙ sym (share-there (length lists) i items item (subst (λ n. nat_eq n i ≡ false) turn e))

  lists_next : (lists : List (List T)) (item : T) (at next : ℕ) → at < length lists → AreInTurn lists at → next ≡ (at + 1) % length lists
      → (in_turn (set lists at (get_or lists at [] ++ item ∷ [])) ≡ in_turn lists ++ item ∷ [])
      × AreInTurn (set lists at (get_or lists at [] ++ item ∷ [])) next
  lists_next lists item at next below was is =
      let items : List T = in_turn lists in
      let more : List (List T) = set lists at (get_or lists at [] ++ item ∷ []) in
      let long : length more ≡ length lists = length-set lists at (get_or lists at [] ++ item ∷ []) in
      let have : AreShares more (items ++ item ∷ []) = shares_next lists items item at below was.1 was.0 in
      let now : in_turn more ≡ items ++ item ∷ [] = in_turn_shares more (items ++ item ∷ []) (omega (arith, long, below)) have in
      let count : length (items ++ item ∷ []) ≡ length items + 1 = length-append items (item ∷ []) in (
        now,
        (
          subst (AreShares more) (sym now) have,
          is ∙ next_turn (length items) at (length lists) was.1 ∙ sym (ap (λ n. n % length lists) count)
              ∙ ap (λ n. length (items ++ item ∷ []) % n) (sym long) ∙ ap (λ l. length l % length more) (sym now),
        ),
      )

  -- lists that are all in turn stop at the next one
  pub stop_in_turn : (lists : List (List T)) (at : ℕ) → at < length lists → AreInTurn lists at → StopAt lists at
  stop_in_turn lists at below are = (
    (λ i within.
        front_first (share (length lists) i (in_turn lists)) (get_or lists i [])
        (front_same (share (length lists) i (in_turn lists)) (get_or lists i []) (are.0 i within))),
    are.1,
    are.0 at below,
  )

module _ {E T : Type 0} where
  -- one more item is read of the endpoint in turn
  pub endpoint_next : (f : E → List T) (ends : List E) (old new : E) (item : T) (at next : ℕ) → at < length ends → old ≡ get_or ends at old
      → f new ≡ f old ++ item ∷ [] → AreInTurn (map f ends) at → next ≡ (at + 1) % length ends
      → (in_turn (map f (set ends at new)) ≡ in_turn (map f ends) ++ item ∷ []) × AreInTurn (map f (set ends at new)) next
  endpoint_next f ends old new item at next below is more was turn =
      let long : length (map f ends) ≡ length ends = length-map ends f in
      let had : get_or (map f ends) at [] ≡ f old = map_at f ends at old [] below is in
      subst (λ l. (in_turn l ≡ in_turn (map f ends) ++ item ∷ []) × AreInTurn l next)
      (ap (set (map f ends) at) (ap (λ q. q ++ item ∷ []) had ∙ sym more) ∙ sym (map-set f ends at new))
      (lists_next (map f ends) item at next (omega (arith, long, below)) was (turn ∙ ap (λ n. (at + 1) % n) (sym long)))
