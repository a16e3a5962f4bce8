-- The feeders of a dealer and the takers of a gatherer, after a call for the lane in turn.
use Rattle.std.proofs.Common.{arith, ◌≡◌, ℕ, zero, suc, ◌+◌, ◌%◌, ◌<◌, Bool, true, false, List, [], ◌∷◌, ◌++◌, length, map, get_or, Option, Some, None, refl, ap, sym, subst, ◌∙◌}
use Rattle.std.proofs.lemmas.List.{get_or-set_same, length-map, length-set}
use Rattle.std.specs.Prelude.{set, is_some, not, if◌then◌else◌}
use Rattle.std.specs.List.{AllZip}
use Rattle.std.proofs.lemmas.Bool.{true≢false}
use Rattle.std.proofs.lemmas.List.Elements.{length_all_zip}
use Rattle.lanes.specs.Rings.{IsFirstOf}
use Rattle.lanes.specs.Ends.{IsRefusal, fed, taken, taker_end}
use Rattle.lanes.specs.declared.feeder.Feeder.{Feeder}
use Rattle.lanes.specs.declared.taker.Taker.{Taker}
use Rattle.lanes.specs.declared.ending.SourceEnd.{SourceEnd}
use Rattle.lanes.specs.declared.ending.LaneEnd.{LaneEnd}
use Rattle.lanes.specs.declared.offer_fault.OfferFault.{OfferFault}
use Rattle.lanes.specs.declared.offer_fault.OfferFault.TheVariants.{Closed, NoRoom}
use Rattle.lanes.specs.declared.took.Took.TheVariants.{Nothing, Answer, End}
use Rattle.lanes.proofs.FrontLemmas.{first_front, front_first, front_trans}
use Rattle.dealt_lanes.specs.InTurn.{AreInTurn, BeginWithShares, StopAt, in_turn, share}
use Rattle.dealt_lanes.specs.Feeders.{IsFedAt, IsReturned, each_fed}
use Rattle.dealt_lanes.specs.Takers.{AreGathered, IsDrained, IsTakenAt, SameTakers, each_taken}
use Rattle.dealt_lanes.proofs.Dealing.{endpoint_next, stop_in_turn}
use Rattle.dealt_lanes.proofs.Shares.{in_turn_are}
use Rattle.dealt_lanes.proofs.Zips.{map_at, map_kept}

pub none_of : {T : Type 0} (end : Option T) (is : Bool) → is ≡ is_some end → is ≡ false → end ≡ None
none_of None is e false-is = refl
none_of (Some x) is e false-is = absurd (true≢false (sym e ∙ false-is))

pub some_of : {T : Type 0} (end : Option T) (is : Bool) → is_some end ≡ not is → is ≡ false → is_some end ≡ true
some_of end is e false-is = e ∙ ap not false-is

-- ---- feeders

module _ {I : Type 0} where
  -- the error of a feeder that isn't closed
  pub returned : (end : Option SourceEnd) (block : ℕ) (lines : List I) (item : I) (fault : OfferFault I) → (is_some end ≡ true → end ≡ None)
      → IsRefusal end block lines item fault → IsReturned None item fault
  returned None block lines item (Closed back) none is = elim is [ ]
  returned None block lines item (NoRoom back) none is = (refl, is.0)
  returned (Some end) block lines item fault none is = absurd (true≢false (ap is_some (none refl)))

module _ {I IS : Type 0} where
  -- an item was dealt
  pub fed_next : (before after : List (Feeder I IS)) (item : I) (at next many : ℕ) → at < length before → many ≡ length after
      → IsFedAt before at item after → AreInTurn (each_fed before) at → next ≡ (at + 1) % many
      → (in_turn (each_fed after) ≡ in_turn (each_fed before) ++ item ∷ []) × AreInTurn (each_fed after) next
  fed_next before after item at next many below long (f, g, is, more, all) was turn =
      let same : many ≡ length before = long ∙ ap length all ∙ length-set before at g in
      subst (λ l. (in_turn (each_fed l) ≡ in_turn (each_fed before) ++ item ∷ []) × AreInTurn (each_fed l) next) (sym all)
      (endpoint_next fed before f g item at next below is more was (turn ∙ ap (λ n. (at + 1) % n) same))

-- ---- takers

has_ended : (ended : Bool) (ending : Option LaneEnd) → is_some (if ended then ending else None) ≡ true → ended ≡ true
has_ended true ending e = refl
has_ended false ending e = absurd (true≢false (sym e))

module _ {O OS : Type 0} where
  -- the taker in turn returned nothing
  pub nothing_next : (right : O → Type 0) (before after : List (Taker O OS)) (at : ℕ) (end : Option LaneEnd) → at < length before → end ≡ None
      → IsTakenAt right before at Nothing after → AreGathered end before at
      → (in_turn (each_taken after) ≡ in_turn (each_taken before)) × AreGathered end after at
  nothing_next right before after at end below none (t, u, is, all, takes) was =
      let same : each_taken after ≡ each_taken before =
      ap (map taken) all ∙ map_kept taken before at t u is (ap (λ s. s.taken) takes.0) in (
        ap in_turn same,
        (
          (λ e. subst (λ l. AreInTurn l at) (sym same) (was.0 e)),
          subst (λ l. StopAt l at) (sym same) was.1,
          (λ some. absurd (true≢false (sym some ∙ ap is_some none))),
        ),
      )

  -- a result was taken from the taker in turn
  pub answer_next : (right : O → Type 0) (before after : List (Taker O OS)) (answer : O) (at next many : ℕ) (end : Option LaneEnd)
      → at < length before → many ≡ length after → next < many → end ≡ None → IsTakenAt right before at (Answer answer) after → AreGathered end before at
      → next ≡ (at + 1) % many
      → right answer × (in_turn (each_taken after) ≡ in_turn (each_taken before) ++ answer ∷ []) × AreGathered end after next
  answer_next right before after answer at next many end below long inside none (t, u, is, all, takes) was turn =
      let same : many ≡ length before = long ∙ ap length all ∙ length-set before at u in
      let (more, now) =
      subst (λ l. (in_turn (each_taken l) ≡ in_turn (each_taken before) ++ answer ∷ []) × AreInTurn (each_taken l) next) (sym all)
      (endpoint_next taken before t u answer at next below is takes.3 (was.0 none) (turn ∙ ap (λ n. (at + 1) % n) same)) in
      let count : length (each_taken after) ≡ length after = length-map after taken in (
        takes.0,
        more,
        (
          (λ _. now),
          stop_in_turn (each_taken after) next (omega (arith, count, long, inside)) now,
          (λ some. absurd (true≢false (sym some ∙ ap is_some none))),
        ),
      )

  -- the end was taken from the taker in turn
  pub end_next : (right : O → Type 0) (before after : List (Taker O OS)) (end : LaneEnd) (at : ℕ) → at < length before
      → IsTakenAt right before at (End end) after → StopAt (each_taken before) at
      → (in_turn (each_taken after) ≡ in_turn (each_taken before)) × AreGathered (Some end) after at
  end_next right before after end at below (t, u, is, all, takes) was =
      let same : each_taken after ≡ each_taken before =
      ap (map taken) all ∙ map_kept taken before at t u is (ap (λ s. s.taken) takes.2) in
      let ended : taker_end u ≡ Some end = ap (λ s. if s.ended then s.ending else None) takes.2 in
      let inside : at < length (set before at u) = let long = length-set before at u in omega (arith, long, below) in
      let there : u ≡ get_or (set before at u) at u = sym (get_or-set_same before at u u below) in (
        ap in_turn same,
        (
          (λ e. absurd (true≢false (ap is_some e))),
          subst (λ l. StopAt l at) (sym same) was,
          (λ _. ap (λ l. get_or (map taker_end l) at None) all ∙ map_at taker_end (set before at u) at u None inside there ∙ ended),
        ),
      )

  -- ---- takers that are emptied

  drained_taken : (before after : List (Taker O OS)) (i : ℕ) → AllZip IsDrained before after
      → IsFirstOf (get_or (each_taken before) i []) (get_or (each_taken after) i [])
  drained_taken [] [] i zip = refl
  drained_taken [] (u ∷ after) i zip = elim zip [ ]
  drained_taken (t ∷ before) [] i zip = elim zip [ ]
  drained_taken (t ∷ before) (u ∷ after) zero zip = zip.0.1
  drained_taken (t ∷ before) (u ∷ after) (suc i) zip = drained_taken before after i zip.1

  -- a taker that had returned the end is unchanged
  drained_end : (before after : List (Taker O OS)) (i : ℕ) → AllZip IsDrained before after
      → is_some (get_or (map taker_end before) i None) ≡ true
      → (get_or (each_taken after) i [] ≡ get_or (each_taken before) i []) × (get_or (map taker_end after) i None ≡ get_or (map taker_end before) i None)
  drained_end [] [] i zip some = (refl, refl)
  drained_end [] (u ∷ after) i zip some = elim zip [ ]
  drained_end (t ∷ before) [] i zip some = elim zip [ ]
  drained_end (t ∷ before) (u ∷ after) zero zip some =
      let same = zip.0.2 some in (ap (λ s. s.taken) same, ap (λ s. if s.ended then s.ending else None) same)
  drained_end (t ∷ before) (u ∷ after) (suc i) zip some = drained_end before after i zip.1 some

  pub drained_gathered : (before after : List (Taker O OS)) (at : ℕ) (end : Option LaneEnd) → at < length before → is_some end ≡ true
      → AllZip IsDrained before after → AreGathered end before at
      → (in_turn (each_taken after) ≡ in_turn (each_taken before)) × AreGathered end after at
  drained_gathered before after at end below some zip was =
      let items : List O = in_turn (each_taken before) in
      let old : List (List O) = each_taken before in
      let new : List (List O) = each_taken after in
      let wide : length old ≡ length before = length-map before taken in
      let long : length new ≡ length old = length-map after taken ∙ sym (length_all_zip IsDrained before after zip) ∙ sym wide in
      let ended : get_or (map taker_end before) at None ≡ end = was.2 some in
      let kept = drained_end before after at zip (ap is_some ended ∙ some) in
      let turn : at ≡ length items % length new = was.1.1 ∙ ap (λ n. length items % n) (sym long) in
      let begin : BeginWithShares new items =
      λ i within.
      let inside : i < length old = omega (arith, long, within) in
      subst (λ n. IsFirstOf (share n i items) (get_or new i [])) (sym long)
      (front_first (share (length old) i items) (get_or new i [])
      (front_trans (share (length old) i items) (get_or old i []) (get_or new i [])
      (first_front (share (length old) i items) (get_or old i []) (was.1.0 i inside))
      (first_front (get_or old i []) (get_or new i []) (drained_taken before after i zip)))) in
      let stop : get_or new at [] ≡ share (length new) at items = kept.0 ∙ was.1.2 ∙ ap (λ n. share n at items) (sym long) in
      let same : in_turn new ≡ items =
      in_turn_are new items (omega (arith, long, wide, below)) begin
      (subst (λ n. get_or new n [] ≡ share (length new) n items) turn stop) in (
        same,
        (
          (λ none. absurd (true≢false (sym some ∙ ap is_some none))),
          (
            subst (BeginWithShares new) (sym same) begin,
            turn ∙ ap (λ l. length l % length new) (sym same),
            stop ∙ ap (λ l. share (length new) at l) (sym same),
          ),
          (λ _. kept.1 ∙ ended),
        ),
      )

  pub drained_same : (before after : List (Taker O OS)) → AllZip IsDrained before after → SameTakers before after
  drained_same [] [] zip = tt
  drained_same [] (u ∷ after) zip = elim zip [ ]
  drained_same (t ∷ before) [] zip = elim zip [ ]
  drained_same (t ∷ before) (u ∷ after) zip = (zip.0.0, drained_same before after zip.1)
