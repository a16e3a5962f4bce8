-- Ends of the same lane.
use Rattle.std.proofs.Common.{rules, arith, ◌≡◌, ◌<◌, List, length, get_or, Option, Some, None, refl, sym, subst, ◌∙◌}
use Rattle.std.proofs.lemmas.List.{get_or_default}
use Rattle.std.proofs.lemmas.List.Elements.{AllZip-get_or, length_all_zip}
use Rattle.std.specs.List.{AllZip}
use Rattle.dealt_lanes.specs.Lanes.{AllThree}
use Rattle.lanes.specs.Messages.{first_end}
use Rattle.lanes.specs.declared.ending.SourceEnd.{SourceEnd}
use Rattle.dealt_lanes.specs.Dealt.{SameDealer}
use Rattle.dealt_lanes.specs.declared.dealer.Dealer.{Dealer}
use Rattle.dealt_lanes.proofs.SameEnds.{feeder_refl, feeder_trans, taker_refl, taker_trans}
use Rattle.dealt_lanes.proofs.Zips.{zip_refl}
use Rattle.batch.proofs.Zips.{zip_trans}
use Rattle.lanes.specs.Ends.{IsLane, SameFeeder, SameSetter, SameTaker}
use Rattle.lanes.specs.declared.making.Making.{Ghosts}
use Rattle.lanes.specs.declared.feeder.Feeder.{Feeder}
use Rattle.lanes.specs.declared.setter.Setter.{Setter}
use Rattle.lanes.specs.declared.taker.Taker.{Taker}
use Rattle.batch.specs.Collecting.{SameLane}
use Rattle.batch.specs.declared.collecting.lane_taker.LaneTaker.{LaneTaker}

module _ {M I O IS OS : Type 0} {ghosts : Ghosts M I O IS OS} where
  pub setter_refl : (s : Setter M I O IS OS ghosts) → SameSetter s s
  setter_refl s = grind rules

  pub setter_trans : (s t u : Setter M I O IS OS ghosts) → SameSetter s t → SameSetter t u → SameSetter s u
  setter_trans s t u a b = grind (rules, a, b)

  -- ends of one lane are replaced by the same ends
  pub still_lane : (f g : Feeder I IS) (s u : Setter M I O IS OS ghosts) (t v : Taker O OS) → IsLane f s t → SameFeeder f g → SameSetter s u → SameTaker t v → IsLane g u v
  still_lane f g s u t v lane a b c = grind (rules, lane, a, b, c)

module _ {O OS : Type 0} where
  pub lane_refl : (a : LaneTaker O OS) → SameLane a a
  lane_refl a = zip_refl SameTaker taker_refl a.gatherer.takers.items

  pub lane_trans : (a b c : LaneTaker O OS) → SameLane a b → SameLane b c → SameLane a c
  lane_trans a b c x y =
      zip_trans SameTaker taker_trans a.gatherer.takers.items b.gatherer.takers.items c.gatherer.takers.items x y

-- ---- the endpoints of the lanes of a source

module _ {I IS : Type 0} where
  pub dealer_refl : (d : Dealer I IS) → SameDealer d d
  dealer_refl d = zip_refl SameFeeder feeder_refl d.feeders.items

  pub dealer_trans : (d e f : Dealer I IS) → SameDealer d e → SameDealer e f → SameDealer d f
  dealer_trans d e f a b = zip_trans SameFeeder feeder_trans d.feeders.items e.feeders.items f.feeders.items a b

-- the first end stands
pub first_again : (old : Option SourceEnd) (end : SourceEnd) → first_end (first_end old (Some end)) (Some end) ≡ first_end old (Some end)
first_again None end = refl
first_again (Some first) end = refl

module _ {M I O IS OS : Type 0} {ghosts : Ghosts M I O IS OS} where
  -- the endpoints of each lane are replaced by the same endpoints
  pub still_lanes : (fs gs : List (Feeder I IS)) (ss us : List (Setter M I O IS OS ghosts)) (ts vs : List (Taker O OS)) → AllThree IsLane fs ss ts
      → AllZip SameFeeder fs gs → AllZip SameSetter ss us → AllZip SameTaker ts vs → AllThree IsLane gs us vs
  still_lanes fs gs ss us ts vs all a b c =
      let of_fs = length_all_zip SameFeeder fs gs a in
      let of_ss = length_all_zip SameSetter ss us b in
      let of_ts = length_all_zip SameTaker ts vs c in (
        sym of_ss ∙ all.0 ∙ of_fs,
        sym of_ts ∙ all.1 ∙ of_fs,
        λ i below.
            let inside : i < length fs = omega (arith, of_fs, below) in
            let (f, s, t, e, h, k, lane) = all.2 i inside in (
              get_or gs i f,
              get_or us i s,
              get_or vs i t,
              get_or_default gs i f (get_or gs i f) below,
              get_or_default us i s (get_or us i s) (omega (arith, inside, all.0, of_ss)),
              get_or_default vs i t (get_or vs i t) (omega (arith, inside, all.1, of_ts)),
              still_lane f (get_or gs i f) s (get_or us i s) t (get_or vs i t) lane
                  (subst (λ x. SameFeeder x (get_or gs i f)) (sym e) (AllZip-get_or SameFeeder fs gs i f f a inside))
                  (subst (λ x. SameSetter x (get_or us i s)) (sym h) (AllZip-get_or SameSetter ss us i s s b (omega (arith, inside, all.0))))
                  (subst (λ x. SameTaker x (get_or vs i t)) (sym k) (AllZip-get_or SameTaker ts vs i t t c (omega (arith, inside, all.1)))),
            ),
      )
