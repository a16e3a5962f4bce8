-- New lanes, of which nothing was fed or taken yet.
use Rattle.std.proofs.Common.{arith, ◌≡◌, ℕ, ◌%◌, ◌<◌, List, [], ◌∷◌, length, map, get_or, None, refl, ap, sym, subst, ◌∙◌}
use Rattle.std.proofs.lemmas.List.{length-map}
use Rattle.std.specs.Prelude.{All, is_some, true}
use Rattle.std.proofs.Math.Nat.{zero-mod}
use Rattle.std.proofs.lemmas.Bool.{true≢false}
use Rattle.std.proofs.lemmas.List.Elements.{All-get_or, All-map, All-weaker}
use Rattle.lanes.specs.Ends.{fed, feeder_end, state_of, taken}
use Rattle.lanes.specs.Turns.{fresh}
use Rattle.lanes.specs.declared.making.Making.{Ghosts}
use Rattle.lanes.specs.declared.feeder.Feeder.{Feeder}
use Rattle.lanes.specs.declared.setter.Setter.{Setter}
use Rattle.lanes.specs.declared.taker.Taker.{Taker}
use Rattle.dealt_lanes.specs.InTurn.{AreInTurn, AreShares, in_turn}
use Rattle.dealt_lanes.specs.Feeders.{HaveEnd, each_fed}
use Rattle.dealt_lanes.specs.Takers.{AreGathered, each_taken}
use Rattle.dealt_lanes.specs.Lanes.{AllThree, IsNew}
use Rattle.dealt_lanes.proofs.Dealing.{in_turn_shares, stop_in_turn}
use Rattle.dealt_lanes.proofs.Meeting.{three_each}

module _ {E T : Type 0} where
  -- endpoints without items have no item in turn
  none_in_turn : (f : E → List T) (ends : List E) → 0 < length ends → All (λ e. f e ≡ []) ends
      → (in_turn (map f ends) ≡ []) × AreInTurn (map f ends) 0
  none_in_turn f ends some empty =
      let lists : List (List T) = map f ends in
      let long : length lists ≡ length ends = length-map ends f in
      let have : AreShares lists [] = λ i within.
      All-get_or (λ l. l ≡ []) (map f ends) i [] within (All-map (λ l. l ≡ []) f ends empty) in
      let none : in_turn lists ≡ [] = in_turn_shares lists [] (omega (arith, long, some)) have in (
        none,
        (
          subst (AreShares lists) (sym none) have,
          sym (zero-mod (length lists)) ∙ ap (λ l. length l % length lists) (sym none),
        ),
      )

module _ {M I O IS OS : Type 0} {ghosts : Ghosts M I O IS OS} where
  each_new : (makes : I → O) (fs : List (Feeder I IS)) (ss : List (Setter M I O IS OS ghosts)) (ts : List (Taker O OS))
      → AllThree (IsNew makes) fs ss ts
      → All (λ f. (fed f ≡ []) × (feeder_end f ≡ None)) fs × All (λ s. state_of s ≡ fresh makes) ss × All (λ t. taken t ≡ []) ts
  each_new makes fs ss ts all =
      three_each (IsNew makes) (λ f. (fed f ≡ []) × (feeder_end f ≡ None)) (λ s. state_of s ≡ fresh makes) (λ t. taken t ≡ [])
      (λ f s t is. (is.1, is.2, is.3)) fs ss ts all

  pub new_makers : (makes : I → O) (fs : List (Feeder I IS)) (ss : List (Setter M I O IS OS ghosts)) (ts : List (Taker O OS))
      → AllThree (IsNew makes) fs ss ts → All (λ s. state_of s ≡ fresh makes) ss
  new_makers makes fs ss ts all = (each_new makes fs ss ts all).1

  -- of the feeders of new lanes nothing is in turn, and none is closed
  pub new_feeders : (makes : I → O) (fs : List (Feeder I IS)) (ss : List (Setter M I O IS OS ghosts)) (ts : List (Taker O OS))
      → 0 < length ss → AllThree (IsNew makes) fs ss ts
      → (0 < length fs) × (in_turn (each_fed fs) ≡ []) × AreInTurn (each_fed fs) 0 × HaveEnd None fs
  new_feeders makes fs ss ts some all =
      let each = (each_new makes fs ss ts all).0 in
      let below : 0 < length fs = omega (arith, all.0, some) in
      let none = none_in_turn fed fs below (All-weaker (λ f. (fed f ≡ []) × (feeder_end f ≡ None)) (λ f. fed f ≡ []) (λ f is. is.0) fs each) in (
        below,
        none.0,
        none.1,
        All-weaker (λ f. (fed f ≡ []) × (feeder_end f ≡ None)) (λ f. is_some (feeder_end f) ≡ true → feeder_end f ≡ None) (λ f is _. is.1) fs each,
      )

  -- of the takers of new lanes nothing is in turn
  pub new_takers : (makes : I → O) (fs : List (Feeder I IS)) (ss : List (Setter M I O IS OS ghosts)) (ts : List (Taker O OS))
      → 0 < length ss → AllThree (IsNew makes) fs ss ts → (0 < length ts) × (in_turn (each_taken ts) ≡ []) × AreGathered None ts 0
  new_takers makes fs ss ts some all =
      let below : 0 < length ts = omega (arith, all.0, all.1, some) in
      let none = none_in_turn taken ts below (each_new makes fs ss ts all).2 in
      let wide : length (each_taken ts) ≡ length ts = length-map ts taken in (
        below,
        none.0,
        (
          (λ _. none.1),
          stop_in_turn (each_taken ts) 0 (omega (arith, wide, below)) none.1,
          (λ is. absurd (true≢false (sym is))),
        ),
      )
