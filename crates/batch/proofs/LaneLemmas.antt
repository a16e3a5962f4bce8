-- What a lane that has ended says of its source.
use Rattle.std.proofs.Common.{rules, arith, ◌≡◌, ℕ, zero, suc, ◌<◌, ◌≤◌, List, [], ◌∷◌, ◌++◌, append_assoc, append-nil, length, get_or, take, drop, Option, Some, None, refl, ap, sym, subst, ◌∙◌, take-append-drop}
use Rattle.std.proofs.lemmas.List.{length-map, length-take, take-take, take-map, drop_all}
use Rattle.std.specs.Prelude.{map, is_some, All, Result}
use Rattle.std.specs.List.{AllZip, remove}
use Rattle.std.proofs.lemmas.List.Elements.{AllZip-get_or, length_all_zip}
use Rattle.std.specs.Option.{option_map}
use Rattle.lanes.specs.Lane.{lane_end_of, pipeline}
use Rattle.lanes.specs.Ends.{SameSetter}
use Rattle.dealt_lanes.specs.Dealt.{dealer_end, dealt, gathered}
use Rattle.dealt_lanes.specs.Settled.{AllMake}
use Rattle.lanes.specs.Rings.{IsFirstOf}
use Rattle.lanes.specs.declared.making.Making.{Ghosts}
use Rattle.lanes.specs.declared.setter.Setter.{Setter}
use Rattle.lanes.specs.declared.fault.SourceFault.{SourceFault}
use Rattle.lanes.specs.declared.ending.SourceEnd.{SourceEnd}
use Rattle.lanes.specs.declared.ending.SourceEnd.TheVariants.{Complete as SourceComplete, Failed}
use Rattle.lanes.specs.declared.ending.LaneEnd.{LaneEnd}
use Rattle.lanes.specs.declared.ending.LaneEnd.TheVariants.{Complete, SourceFailed, GaveUp}
use Rattle.batch.specs.Calls.{IsFedFrom, WasRead}
use Rattle.batch.specs.Given.{HandsBack}
use Rattle.batch.specs.Closed.{IsClosedOf}
use Rattle.batch.specs.Lanes.{IsFresh, IsFinished}
use Rattle.batch.specs.Events.{LaneEvent, answers_among, lane_events}
use Rattle.batch.specs.Collecting.{IsToldFirst}
use Rattle.batch.specs.declared.threads.source_thread.Feeding.{Feeding}
use Rattle.batch.specs.declared.collecting.lane_taker.LaneTaker.{LaneTaker}
use Rattle.batch.specs.declared.run_end.ClosedLane.{ClosedLane}

-- the first items, and the others with more
parted : {T : Type 0} (n : ℕ) (given more : List T) → take n given ++ (drop n given ++ more) ≡ given ++ more
parted n given more = sym (append_assoc (take n given) (drop n given) more) ∙ ap (λ l. l ++ more) (take-append-drop n given)

-- none but these
no_others : {T : Type 0} (n : ℕ) (given more : List T) → length given ≡ n → more ≡ [] → drop n given ++ more ≡ []
no_others n given more long none =
    ap (λ l. drop n given ++ l) none ∙ append-nil (drop n given) ∙ drop_all n given (omega (arith, long))

-- the end of a source whose lane has this end
complete_source : (source : Option SourceEnd) → option_map lane_end_of source ≡ Some Complete → source ≡ Some SourceComplete
complete_source None is = absurd (search rules)
complete_source (Some SourceComplete) is = refl
complete_source (Some (Failed fault)) is = absurd (search rules)

failed_source : (source : Option SourceEnd) (fault : SourceFault) → option_map lane_end_of source ≡ Some (SourceFailed fault) → source ≡ Some (Failed fault)
failed_source None fault is = absurd (search rules)
failed_source (Some SourceComplete) fault is = absurd (search rules)
failed_source (Some (Failed other)) fault is = search rules

module _ {M I O IS OS : Type 0} {ghosts : Ghosts M I O IS OS} where
  -- setters after some turns make the same
  all_make : (ss ts : List (Setter M I O IS OS ghosts)) (makes : I → O) → AllZip SameSetter ss ts → AllMake makes ss → AllMake makes ts
  all_make ss ts makes same make i d below =
      let inside : i < length ss = let long = length_all_zip SameSetter ss ts same in omega (arith, long, below) in
      (AllZip-get_or SameSetter ss ts i d d same inside).2 ∙ make i d inside

module _ {I O : Type 0} where
  -- the first of the results of the first items
  pipeline_first : (makes : I → O) (fed : List I) (results all : List O) → IsFirstOf results all → pipeline makes fed all
      → pipeline makes fed results
  pipeline_first makes fed results all first line =
      let n = length results in let m = length all in
      let fits : n ≤ m = omega (arith, length-take n all, ap length first) in
      first ∙ ap (take n) line ∙ take-map makes n (take m fed) ∙ ap (map makes) (take-take n m fed fits)

module _ {S M I O Q IS OS : Type 0} {ghosts : Ghosts M I O IS OS} where
  -- lanes of a source that have ended
  pub closed_of : (gives : S → Result (Option I) SourceFault → S → Type 0) (origin : S → Q) (source : S × M)
      (start back : Feeding S I IS) (ss ts : List (Setter M I O IS OS ghosts)) (first last : LaneTaker O OS) (lane : ClosedLane S) (told : List (LaneEvent O))
      → start.source ≡ source.0 → IsFresh (ghosts.makes source.1) start.dealer ss first → AllZip SameSetter ss ts → HandsBack gives origin start back
      → IsFinished back ts last lane → IsToldFirst told last
      → (told ≡ lane_events (answers_among told) lane.end) × IsClosedOf gives (ghosts.makes source.1) source.0 (answers_among told) lane
  closed_of gives origin source start back ss ts first last lane told from fresh same handed finished came =
      let makes = ghosts.makes source.1 in let results = answers_among told in let given = dealt back.dealer in
      let n = length results in
      let own : AllMake makes ts = all_make ss ts makes same fresh.3 in
      let was : IsFedFrom gives (dealer_end back.dealer) given source.0 lane.source =
      subst (IsFedFrom gives (dealer_end back.dealer) given source.0) (sym finished.0)
      (subst (λ x. IsFedFrom gives (dealer_end back.dealer) given x back.source) from
      (handed.all_fed fresh.1 fresh.2))
      in let (more, ended, read, ends) = was in
      let line : pipeline makes given results =
      pipeline_first makes given results (gathered last.gatherer) came.1 (finished.2 makes own).results
      in let over : (end : LaneEnd) → lane.end ≡ Some end → (end ≡ GaveUp → ⊥)
      → (option_map lane_end_of (dealer_end back.dealer) ≡ Some end) × (results ≡ map makes given) =
      λ end is going.
      let here : last.end ≡ Some end = sym finished.1 ∙ is in
      let all = came.2 (ap is_some here) in
      let facts = (finished.2 makes own).whole end (sym all.1 ∙ here) going in
      (facts.0, all.0 ∙ facts.1)
      in (
        came.0 ∙ ap (lane_events results) (sym finished.1),
        record {
          items = take n given;
          more = drop n given ++ more;
          last = ended;
          made = line;
          read = subst (λ l. WasRead gives source.0 l ended lane.source) (sym (parted n given more)) read;
          complete = λ is.
              let facts = over Complete is (λ no. absurd (search rules)) in
              let end = ends SourceComplete (complete_source (dealer_end back.dealer) facts.0) in
              (no_others n given more (sym (ap length facts.1 ∙ length-map given makes)) end.0, end.1);
          failed = λ fault is.
              let facts = over (SourceFailed fault) is (λ no. absurd (search rules)) in
              let end = ends (Failed fault) (failed_source (dealer_end back.dealer) fault facts.0) in
              (no_others n given more (sym (ap length facts.1 ∙ length-map given makes)) end.0, end.1);
        },
      )

module _ {O OS : Type 0} where
  -- the first taker was taken
  pub first_taken : (old new : List (LaneTaker O OS)) (first : LaneTaker O OS) → (old ≡ [] → ⊥) → first ≡ get_or old 0 first → new ≡ remove old 0
      → old ≡ first ∷ new
  first_taken [] new first some is rest = absurd (some refl)
  first_taken (t ∷ ts) new first some is rest = ap (λ x. x ∷ ts) (sym is) ∙ ap (λ xs. first ∷ xs) (sym rest)
