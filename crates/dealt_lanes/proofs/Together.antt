-- What is known of several lanes once their endpoints were brought together.
use Rattle.std.proofs.Common.{arith, ◌≡◌, ℕ, zero, suc, ◌+◌, ◌%◌, ◌<◌, Bool, true, false, nat_eq, List, [], ◌∷◌, ◌++◌, length, map, get_or, Option, Some, None, refl, ap, sym, subst, ◌∙◌, append-nil}
use Rattle.std.specs.Prelude.{is_some}
use Rattle.std.specs.Option.{option_map}
use Rattle.std.proofs.lemmas.Nat.{mod_below}
use Rattle.std.proofs.lemmas.Option.{none-some}
use Rattle.std.proofs.lemmas.List.{length-map}
use Rattle.std.proofs.lemmas.List.Elements.{All-get_or}
use Rattle.lanes.specs.Lane.{lane_end_of, pipeline}
use Rattle.lanes.specs.Turns.{is_given_up}
use Rattle.lanes.specs.Settled.{IsSettled}
use Rattle.lanes.specs.Ends.{fed, feeder_end, state_of, taken, taker_end}
use Rattle.lanes.specs.declared.making.Making.{Ghosts}
use Rattle.lanes.specs.declared.feeder.Feeder.{Feeder}
use Rattle.lanes.specs.declared.setter.Setter.{Setter}
use Rattle.lanes.specs.declared.taker.Taker.{Taker}
use Rattle.lanes.specs.declared.ending.SourceEnd.{SourceEnd}
use Rattle.lanes.specs.declared.ending.LaneEnd.{LaneEnd}
use Rattle.lanes.specs.declared.ending.LaneEnd.TheVariants.{GaveUp}
use Rattle.lanes.proofs.FrontLemmas.{IsFront, first_front, front_pipeline, front_trans, pipeline_front}
use Rattle.dealt_lanes.specs.InTurn.{AreInTurn, StopAt, in_turn, share, share_from}
use Rattle.dealt_lanes.specs.Feeders.{HaveEnd, each_fed}
use Rattle.dealt_lanes.specs.Takers.{AreGathered, each_taken}
use Rattle.dealt_lanes.specs.Lanes.{AllThree, IsMet}
use Rattle.dealt_lanes.specs.Settled.{AllMake}
use Rattle.dealt_lanes.proofs.SameEnds.{ends_at}
use Rattle.dealt_lanes.proofs.Shares.{fronts, here, share-append, there}
use Rattle.dealt_lanes.proofs.Zips.{map_at}

-- ---- what is made of shares

module _ {S T : Type 0} where
  share-map : (f : S → T) (k i j : ℕ) (xs : List S) → share_from k i j (map f xs) ≡ map f (share_from k i j xs)
  share-map f k i j [] = refl
  share-map f k i j (x ∷ xs) = by (nat_eq (j % k) i) refl (share-map f k i (j + 1) xs)
    where
      by : (b : Bool) → nat_eq (j % k) i ≡ b → share_from k i (j + 1) (map f xs) ≡ map f (share_from k i (j + 1) xs)
          → share_from k i j (f x ∷ map f xs) ≡ map f (share_from k i j (x ∷ xs))
      by true e more = here k i j (f x) (map f xs) e ∙ ap (λ l. f x ∷ l) more ∙ ap (map f) (sym (here k i j x xs e))
      by false e more = there k i j (f x) (map f xs) e ∙ more ∙ ap (map f) (sym (there k i j x xs e))

module _ {T : Type 0} where
  longer : (xs : List T) (y : T) (ys : List T) → xs ≡ xs ++ (y ∷ ys) → ⊥
  longer [] y ys e = grind (arith, e)
  longer (x ∷ xs) y ys e = longer xs y ys (grind (arith, e))

  -- the first items are all items, if the share of the list in turn after them is the same
  whole_share : (k : ℕ) (xs ys : List T) → 0 < k → share k (length xs % k) xs ≡ share k (length xs % k) ys → IsFront xs ys → xs ≡ ys
  whole_share k xs ys some same ([], e) = sym (append-nil xs) ∙ e
  whole_share k xs ys some same (y ∷ rest, e) =
      let at : ℕ = length xs % k in
      let start : 0 + length xs ≡ length xs = omega arith in
      let itself : nat_eq (length xs % k) at ≡ true = search arith in
      let more : share k at ys ≡ share k at xs ++ (y ∷ share_from k at (length xs + 1) rest) =
      ap (share k at) (sym e) ∙ share-append k at 0 xs (y ∷ rest) ∙ ap (λ n. share k at xs ++ share_from k at n (y ∷ rest)) start
      ∙ ap (λ l. share k at xs ++ l) (here k at (length xs) y rest itself) in
      absurd (longer (share k at xs) y (share_from k at (length xs + 1) rest) (same ∙ more))

-- ---- lane by lane

-- the end of one feeder is that of all
own_end : (all own : Option SourceEnd) (end : LaneEnd) → (is_some own ≡ true → own ≡ all) → option_map lane_end_of own ≡ Some end
    → option_map lane_end_of all ≡ Some end
own_end all None end same is = absurd (none-some end is)
own_end all (Some e) end same is = ap (option_map lane_end_of) (sym (same refl)) ∙ is

module _ {M I O IS OS : Type 0} {ghosts : Ghosts M I O IS OS} where
  make_at : (ss : List (Setter M I O IS OS ghosts)) (makes : I → O) (i : ℕ) (s : Setter M I O IS OS ghosts) → i < length ss → s ≡ get_or ss i s → AllMake makes ss
      → (state_of s).makes ≡ makes
  make_at ss makes i s below is make = ap (λ x. (state_of x).makes) is ∙ All-get_or (λ x. (state_of x).makes ≡ makes) ss i s below make

  -- the results of one lane
  lane_results : (fs : List (Feeder I IS)) (ss : List (Setter M I O IS OS ghosts)) (ts : List (Taker O OS)) (makes : I → O) (i : ℕ) → i < length fs
      → AllThree IsMet fs ss ts → AllMake makes ss → pipeline makes (get_or (each_fed fs) i []) (get_or (each_taken ts) i [])
  lane_results fs ss ts makes i below met make =
      let (f, s, t, is_f, is_s, is_t, one) = met.2 i below in
      subst (λ items. pipeline makes items (get_or (each_taken ts) i [])) (sym (map_at fed fs i f [] below is_f))
      (subst (pipeline makes (fed f)) (sym (map_at taken ts i t [] (omega (arith, below, met.1)) is_t))
      (subst (λ m. pipeline m (fed f) (taken t)) (make_at ss makes i s (omega (arith, below, met.0)) is_s make) one.results))

  -- a lane that is finished with an end other than `GaveUp`
  going_end : (f : Feeder I IS) (s : Setter M I O IS OS ghosts) (t : Taker O OS) (end : LaneEnd) → IsSettled f s t end → (end ≡ GaveUp → ⊥)
      → (option_map lane_end_of (feeder_end f) ≡ Some end) × (taken t ≡ map (state_of s).makes (fed f))
  going_end f s t end settled going = by (is_given_up (state_of s).made) settled.2 settled.3 settled.4
    where
      by : (up : Bool) → (up ≡ true → end ≡ GaveUp) → (up ≡ false → option_map lane_end_of (feeder_end f) ≡ Some end)
          → (up ≡ false → taken t ≡ map (state_of s).makes (fed f))
          → (option_map lane_end_of (feeder_end f) ≡ Some end) × (taken t ≡ map (state_of s).makes (fed f))
      by true gave_up ended all = absurd (going (gave_up refl))
      by false gave_up ended all = (ended refl, all refl)

  lane_ended : (fs : List (Feeder I IS)) (ss : List (Setter M I O IS OS ghosts)) (ts : List (Taker O OS)) (makes : I → O) (i : ℕ) (all : Option SourceEnd) (end : LaneEnd)
      → i < length fs → AllThree IsMet fs ss ts → AllMake makes ss → HaveEnd all fs → get_or (map taker_end ts) i None ≡ Some end → (end ≡ GaveUp → ⊥)
      → (option_map lane_end_of all ≡ Some end) × (get_or (each_taken ts) i [] ≡ map makes (get_or (each_fed fs) i []))
  lane_ended fs ss ts makes i all end below met make have is going =
      let (f, s, t, is_f, is_s, is_t, one) = met.2 i below in
      let of_ts : i < length ts = omega (arith, below, met.1) in
      let facts = going_end f s t end (one.ended end (sym (map_at taker_end ts i t None of_ts is_t) ∙ is) going) going in (
        own_end all (feeder_end f) end (ends_at all fs i f is_f below have) facts.0,
        map_at taken ts i t [] of_ts is_t ∙ facts.1 ∙ ap (λ m. map m (fed f)) (make_at ss makes i s (omega (arith, below, met.0)) is_s make)
            ∙ ap (map makes) (sym (map_at fed fs i f [] below is_f)),
      )

-- ---- all lanes

module _ {M I O IS OS : Type 0} {ghosts : Ghosts M I O IS OS} where
  -- the results in turn are a front of those made of all items
  gathered_front : (fs : List (Feeder I IS)) (ss : List (Setter M I O IS OS ghosts)) (ts : List (Taker O OS)) (at turn : ℕ) (makes : I → O) → at < length fs
      → AreInTurn (each_fed fs) at → StopAt (each_taken ts) turn → AllThree IsMet fs ss ts → AllMake makes ss
      → IsFront (in_turn (each_taken ts)) (map makes (in_turn (each_fed fs)))
  gathered_front fs ss ts at turn makes below dealt stop met make =
      let k : ℕ = length fs in
      let items : List I = in_turn (each_fed fs) in
      let results : List O = in_turn (each_taken ts) in
      let wide : length (each_fed fs) ≡ k = length-map fs fed in
      let long : length (each_taken ts) ≡ k = length-map ts taken ∙ met.1 in
      fronts k 0 results (map makes items) (omega (arith, below)) (λ i within.
      let inside : i < length (each_taken ts) = omega (arith, long, within) in
      let there : i < length (each_fed fs) = omega (arith, wide, within) in
      let first : IsFront (share k i results) (get_or (each_taken ts) i []) =
      subst (λ n. IsFront (share n i results) (get_or (each_taken ts) i [])) long
      (first_front (share (length (each_taken ts)) i results) (get_or (each_taken ts) i []) (stop.0 i inside)) in
      let own : get_or (each_fed fs) i [] ≡ share k i items = dealt.0 i there ∙ ap (λ n. share n i items) wide in
      front_trans (share k i results) (get_or (each_taken ts) i []) (share_from k i 0 (map makes items)) first
      (subst (IsFront (get_or (each_taken ts) i [])) (ap (map makes) own ∙ sym (share-map makes k i 0 items))
      (pipeline_front makes (get_or (each_fed fs) i []) (get_or (each_taken ts) i []) (lane_results fs ss ts makes i within met make))))

  pub gathered_pipeline : (fs : List (Feeder I IS)) (ss : List (Setter M I O IS OS ghosts)) (ts : List (Taker O OS)) (at turn : ℕ) (makes : I → O) → at < length fs
      → AreInTurn (each_fed fs) at → StopAt (each_taken ts) turn → AllThree IsMet fs ss ts → AllMake makes ss
      → pipeline makes (in_turn (each_fed fs)) (in_turn (each_taken ts))
  gathered_pipeline fs ss ts at turn makes below dealt stop met make =
      front_pipeline makes (in_turn (each_fed fs)) (in_turn (each_taken ts)) (gathered_front fs ss ts at turn makes below dealt stop met make)

  pub gathered_whole : (fs : List (Feeder I IS)) (ss : List (Setter M I O IS OS ghosts)) (ts : List (Taker O OS)) (at turn : ℕ) (makes : I → O)
      (all : Option SourceEnd) (took : Option LaneEnd) (end : LaneEnd) → at < length fs → AreInTurn (each_fed fs) at → HaveEnd all fs
      → AreGathered took ts turn → AllThree IsMet fs ss ts → AllMake makes ss → took ≡ Some end → (end ≡ GaveUp → ⊥)
      → (option_map lane_end_of all ≡ Some end) × (in_turn (each_taken ts) ≡ map makes (in_turn (each_fed fs)))
  gathered_whole fs ss ts at turn makes all took end below dealt have gathered met make is going =
      let k : ℕ = length fs in
      let items : List I = in_turn (each_fed fs) in
      let results : List O = in_turn (each_taken ts) in
      let wide : length (each_fed fs) ≡ k = length-map fs fed in
      let long : length (each_taken ts) ≡ k = length-map ts taken ∙ met.1 in
      let some : 0 < k = omega (arith, below) in
      let here' : get_or (map taker_end ts) turn None ≡ Some end = gathered.2 (ap is_some is) ∙ is in
      let next : turn ≡ length results % k = gathered.1.1 ∙ ap (λ n. length results % n) long in
      let within : turn < k = subst (λ n. n < k) (sym next) (mod_below (length results) k some) in
      let inside : turn < length (each_fed fs) = omega (arith, wide, within) in
      let facts = lane_ended fs ss ts makes turn all end within met make have here' going in
      let own : share k turn results ≡ share k turn (map makes items) =
      ap (λ n. share n turn results) (sym long) ∙ sym gathered.1.2 ∙ facts.1
      ∙ ap (map makes) (dealt.0 turn inside ∙ ap (λ n. share n turn items) wide) ∙ sym (share-map makes k turn 0 items) in (
        facts.0,
        whole_share k results (map makes items) some (subst (λ n. share k n results ≡ share k n (map makes items)) next own)
            (gathered_front fs ss ts at turn makes below dealt gathered.1 met make),
      )
