-- An array is filled from its front.
use Rattle.std.proofs.Common.{◌≡◌, ℕ, ◌+◌, ◌-◌, ◌^◌, ◌<◌, ◌≤◌, List, [], ◌++◌, length, take, drop, min, arith, refl, ap, sym, ◌∙◌, append_assoc, append-nil, length-append, subst}
use Rattle.std.proofs.lemmas.Slice.{drop-put_mid, take-put_mid}
use borrow.Rule.Slice.PartMut.{put_mid}
use Rattle.std.proofs.lemmas.List.{drop-drop, take-append-drop}
use Rattle.tfmset_c.specs.Arrays.{ArePut, HasRoom, IsFilled, IsPartly, held}

-- things that were put at a place, if there was room, are put
pub put_many : {T : Type 0} (xs now after : List T) (at at' : ℕ) → at' ≡ min (at + length xs) (2 ^ 64 - 1)
    → length after ≡ length now
    → (at + length xs ≤ length now → take (at + length xs) after ≡ take at now ++ xs)
    → (at + length xs ≤ length now → drop (at + length xs) after ≡ drop (at + length xs) now)
    → ArePut xs at at' now after
unfolding HasRoom
put_many {T} xs now after at at' next same put kept = record {
  further = λ told to_come before partly.
      let count : partly.place + (length xs + length to_come) ≡ length told = ap (λ n. partly.place + n) (sym (length-append xs to_come)) ∙ partly.counted in
      let here : partly.place + length xs < 2 ^ 64 - 1 → at ≡ partly.place = λ below. omega (arith, partly.at_place, below) in
      record {
        place = partly.place + length xs;
        at_place = omega (arith, partly.at_place, next);
        counted = omega (arith, count);
        same_length = same ∙ partly.same_length;
        front = λ room.
            let is : at ≡ partly.place = here room.1 in
            let fits : at + length xs ≤ length now = omega (arith, is, room.0, partly.same_length) in
            let before_front : told ≡ take partly.place now ++ (xs ++ to_come) = partly.front (omega (arith, room.0), omega (arith, room.1)) in
            before_front ∙ ap (λ n. take n now ++ (xs ++ to_come)) (sym is) ∙ sym (append_assoc (take at now) xs to_come)
            ∙ ap (λ ys. ys ++ to_come) (sym (put fits)) ∙ ap (λ n. take (n + length xs) after ++ to_come) is;
        rest = λ room.
            let is : at ≡ partly.place = here room.1 in
            let fits : at + length xs ≤ length now = omega (arith, is, room.0, partly.same_length) in
            let before_rest : drop partly.place now ≡ drop partly.place before = partly.rest (omega (arith, room.0), omega (arith, room.1)) in
            ap (λ n. drop (n + length xs) after) (sym is) ∙ kept fits ∙ ap (λ n. drop (n + length xs) now) is
            ∙ sym (drop-drop (length xs) partly.place now) ∙ ap (λ ys. drop (length xs) ys) before_rest ∙ drop-drop (length xs) partly.place before;
      };
}

-- elements that were copied to their place are put
pub put_part : {T : Type 0} (xs now after made : List T) (at at' k : ℕ) → at' ≡ min (at + length xs) (2 ^ 64 - 1) → after ≡ put_mid at k now made → made ≡ xs
    → k ≡ length xs → at + length xs ≤ length now → length after ≡ length now → ArePut xs at at' now after
put_part xs now after made at at' k next is same many fits long =
    let length_made : length made ≡ length xs = ap length same in
    put_many xs now after at at' next long
    (λ _. ap (take (at + length xs)) is ∙ take-put_mid at k now made _ (omega arith) (omega arith) ∙ ap (λ ys. take at now ++ ys) same)
    (λ _. ap (drop (at + length xs)) is ∙ drop-put_mid at k now made _ (omega arith) (omega arith) (omega arith))

-- without a place nothing is to be seen
pub put_past : {T : Type 0} (xs now after : List T) (at at' : ℕ) → at' ≡ min (at + length xs) (2 ^ 64 - 1) → length now < at + length xs
    → after ≡ now → ArePut xs at at' now after
put_past xs now after at at' next past is =
    put_many xs now after at at' next (ap length is) (λ fits. absurd (omega (arith, fits, past))) (λ fits. absurd (omega (arith, fits, past)))

pub ruleset puts = (put_part, put_past)

-- some things are put, and then others
pub put_both : {T : Type 0} (xs ys all first second third : List T) (at at' at'' : ℕ) → ArePut xs at at' first second → ArePut ys at' at'' second third
    → all ≡ xs ++ ys → ArePut all at at'' first third
put_both {T} xs ys all first second third at at' at'' one two is = record {
  further = λ told to_come before partly.
      two.further told to_come before (one.further told (ys ++ to_come) before
      (subst (λ (zs : List T). IsPartly told zs at before first) (ap (λ zs. zs ++ to_come) is ∙ append_assoc xs ys to_come) partly));
}

-- at first all is to come
pub nothing_put : {T : Type 0} (told before : List T) → IsPartly told told 0 before before
nothing_put told before = record {
  place = 0;
  at_place = refl;
  counted = omega arith;
  same_length = refl;
  front = λ _. refl;
  rest = λ _. refl;
}

-- elements that are put at the front of an array
pub whole_put : {T : Type 0} (told before after : List T) (count : ℕ) → ArePut told 0 count before after → IsFilled told count before after
whole_put told before after count put = put.further told [] before (rw append-nil (nothing_put told before))

-- at last this is how many there are
pub all_counted : {T : Type 0} {told before now : List T} {count : ℕ} → IsFilled told count before now → count ≡ held (length told)
all_counted filled = omega (arith, filled.at_place, filled.counted)

-- and all are there
pub all_put : {T : Type 0} {told before now : List T} {count : ℕ} → IsFilled told count before now → HasRoom (length told) (length before)
    → now ≡ told ++ drop (length told) before
unfolding HasRoom
all_put {told = told} {before = before} {now = now} filled room =
    let whole : filled.place ≡ length told = omega (arith, filled.counted) in
    let fits : (filled.place ≤ length before) × (filled.place < 2 ^ 64 - 1) = (omega (arith, whole, room.0), omega (arith, whole, room.1)) in
    let front : told ≡ take filled.place now = filled.front fits ∙ append-nil (take filled.place now) in
    sym (take-append-drop filled.place now) ∙ ap (λ ys. ys ++ drop filled.place now) (sym front)
    ∙ ap (λ ys. told ++ ys) (filled.rest fits) ∙ ap (λ n. told ++ drop n before) whole

pub ruleset filled = (all_counted, all_put)
