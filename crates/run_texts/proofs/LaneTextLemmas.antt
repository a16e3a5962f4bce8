-- What is kept of lanes, event by event.
use Rattle.std.proofs.Common.{◌≡◌, ℕ, zero, suc, ◌+◌, ◌<◌, ◌^◌, List, [], ◌∷◌, ◌++◌, length, get_or, arith, refl, ap, sym, subst, ◌∙◌, append-nil}
use Rattle.std.specs.Prelude.{Result, Ok, Err, OnOk, OnErr, is_ok}
use Rattle.std.specs.List.{concat}
use Rattle.std.proofs.Math.ListN.{set}
use Rattle.std.proofs.lemmas.List.{length-set, set-get_or}
use Rattle.run_plan.specs.declared.version.Version.{Version}
use Rattle.lanes.specs.declared.ending.LaneEnd.{LaneEnd}
use Rattle.line_chunks.specs.ChunkText.{ChunkTextValue}
use Rattle.batch.specs.declared.collector.Refusal.{Refusal}
use Rattle.batch.specs.Events.{Event, LaneEvent, Answered, Ended, Gets, answers_among, of_lane}
use Rattle.run_texts.specs.RunText.{end_text, why_of}
use Rattle.run_texts.specs.LaneText.{AreKept, LaneTextValue, chunk_lines, kept_of, records_of, refused_of}
use Rattle.run_texts.proofs.EventLemmas.{among_ended, of_lane_more, of_lane_other, other_test, records_more, refused_more, text_more}

-- ---- what is kept of a lane

abbrev lane_of : List ℕ → ℕ → ℕ → LaneTextValue
lane_of text records refused = record { text = text; records = records; refused = refused }

same_lane : (t t' : List ℕ) (a a' r r' : ℕ) → t ≡ t' → a ≡ a' → r ≡ r' → lane_of t a r ≡ lane_of t' a' r'
same_lane t t' a a' r r' p q s = ap (λ x. lane_of x a r) p ∙ ap (λ x. lane_of t' x r) q ∙ ap (λ x. lane_of t' a' x) s

abbrev pub with_chunk : ChunkTextValue → LaneTextValue → LaneTextValue
with_chunk block old = record {
  text = old.text ++ concat (chunk_lines block);
  records = old.records + block.lines;
  refused = old.refused + block.refused;
}

abbrev pub with_end : Version → ℕ → LaneEnd → LaneTextValue → LaneTextValue
with_end version source end old = record { text = old.text ++ end_text source version (why_of end) old.records; records = old.records; refused = old.refused }

pub length_more : {T : Type 0} (xs : List T) (x : T) → length (xs ++ x ∷ []) ≡ length xs + 1
length_more [] x = refl
length_more (y ∷ xs) x = omega (arith, length_more xs x)

kept_answered : (version : Version) (source : ℕ) (events : List (LaneEvent ChunkTextValue)) (block : ChunkTextValue) (old new : LaneTextValue)
    → old ≡ kept_of version source events → new ≡ with_chunk block old → new ≡ kept_of version source (events ++ Answered block ∷ [])
kept_answered version source events block old new was is =
    is ∙ ap (with_chunk block) was
    ∙ same_lane _ _ _ _ _ _
    (sym (text_more source version events (Answered block)))
    (sym (records_more events block))
    (sym (refused_more events block))

kept_ended : (version : Version) (source : ℕ) (events : List (LaneEvent ChunkTextValue)) (end : LaneEnd) (old new : LaneTextValue)
    → old ≡ kept_of version source events → new ≡ with_end version source end old → new ≡ kept_of version source (events ++ Ended end ∷ [])
kept_ended version source events end old new was is =
    is ∙ ap (with_end version source end) was
    ∙ same_lane _ _ _ _ _ _
    (ap (λ line. (kept_of version source events).text ++ line) (sym (append-nil (end_text source version (why_of end) (records_of (answers_among events)))))
    ∙ sym (text_more source version events (Ended end)))
    (sym (ap records_of (among_ended events end)))
    (sym (ap refused_of (among_ended events end)))

-- ---- what is kept of all lanes

kept_at : (version : Version) (events : List (Event ChunkTextValue)) (number i n : ℕ) (lanes : List LaneTextValue) (d : LaneTextValue)
    → n ≡ number + i → i < length lanes → AreKept version events number lanes → get_or lanes i d ≡ kept_of version (n + 1) (of_lane n events)
kept_at version events number i n [] d at within kept = absurd (omega (arith, within))
kept_at version events number zero n (lane ∷ lanes) d at within kept =
    let same : number ≡ n = omega arith in
    kept.0 ∙ ap (λ m. kept_of version (m + 1) (of_lane m events)) same
kept_at version events number (suc i) n (lane ∷ lanes) d at within kept =
    kept_at version events (number + 1) i n lanes d (omega arith) (omega (arith, within)) kept.2

-- what came of a lane before these
kept_same : (version : Version) (events : List (Event ChunkTextValue)) (n : ℕ) (event : LaneEvent ChunkTextValue) (number : ℕ) (lanes : List LaneTextValue)
    → n < number → AreKept version events number lanes → AreKept version (events ++ (n, event) ∷ []) number lanes
kept_same version events n event number [] before kept = tt
kept_same version events n event number (lane ∷ lanes) before kept = (
  kept.0 ∙ ap (kept_of version (number + 1)) (sym (of_lane_other number n events event (other_test n number (λ (e : n ≡ number). omega arith)))),
  kept.1,
  kept_same version events n event (number + 1) lanes (omega arith) kept.2,
)

-- one event more
kept_set : (version : Version) (events : List (Event ChunkTextValue)) (number i n : ℕ) (lanes : List LaneTextValue) (event : LaneEvent ChunkTextValue) (new : LaneTextValue)
    → n ≡ number + i → i < length lanes → new ≡ kept_of version (n + 1) (of_lane n events ++ event ∷ []) → 1 + new.records < 2 ^ 64
    → AreKept version events number lanes → AreKept version (events ++ (n, event) ∷ []) number (set lanes i new)
kept_set version events number i n [] event new at within is fits kept = absurd (omega (arith, within))
kept_set version events number zero n (lane ∷ lanes) event new at within is fits kept =
    let same : n ≡ number = omega arith in (
      is ∙ ap (kept_of version (n + 1)) (sym (of_lane_more n n events event refl))
          ∙ ap (λ m. kept_of version (m + 1) (of_lane m (events ++ (n, event) ∷ []))) same,
      fits,
      kept_same version events n event (number + 1) lanes (omega arith) kept.2,
    )
kept_set version events number (suc i) n (lane ∷ lanes) event new at within is fits kept = (
  kept.0 ∙ ap (kept_of version (number + 1)) (sym (of_lane_other number n events event (other_test n number (λ (e : n ≡ number). omega arith)))),
  kept.1,
  kept_set version events (number + 1) i n lanes event new (omega arith) (omega (arith, within)) is fits kept.2,
)

kept_blank : (version : Version) (number : ℕ) (lanes : List LaneTextValue) (lane : LaneTextValue)
    → AreKept version [] number lanes → lane ≡ lane_of [] 0 0 → AreKept version [] number (lanes ++ lane ∷ [])
kept_blank version number [] lane kept is = (is, subst (λ l. 1 + l.records < 2 ^ 64) (sym is) (omega arith), tt)
kept_blank version number (l ∷ lanes) lane kept is = (kept.0, kept.1, kept_blank version (number + 1) lanes lane kept.2 is)

-- one lane more, of which nothing came yet
pub kept_begun : (version : Version) (number : ℕ) (lanes more : List LaneTextValue) (lane : LaneTextValue)
    → more ≡ lanes ++ lane ∷ [] → lane ≡ record { text = []; records = 0; refused = 0 } → AreKept version [] number lanes → AreKept version [] number more
kept_begun version number lanes more lane is blank kept = rw is (kept_blank version number lanes lane kept blank)

-- ---- what a collector of texts was given

module _ {C : Type 0} (version_of : C → Version) (lanes_of : C → List LaneTextValue) (version : Version) (count : ℕ) where
  abbrev pub Given : C → List (Event ChunkTextValue) → Type 0
  Given texts events = (version_of texts ≡ version) × (length (lanes_of texts) ≡ count) × AreKept version events 0 (lanes_of texts)

  -- the text of a block was taken, or refused
  pub gets_answer : (before after : C) (lane : ℕ) (block : ChunkTextValue) (r : Result (Unit {0}) Refusal) (old new : LaneTextValue)
      → lane < length (lanes_of before) → old ≡ get_or (lanes_of before) lane old → version_of after ≡ version_of before
      → lanes_of after ≡ set (lanes_of before) lane new
      → OnOk r (new ≡ with_chunk block old) → OnErr r (new ≡ old) → 1 + new.records < 2 ^ 64
      → Gets Given before (lane, Answered block) (is_ok r) after
  gets_answer before after lane block (Ok u) old new within at same becomes ok err fits = λ events given. (
    same ∙ given.0,
    ap length becomes ∙ length-set (lanes_of before) lane new ∙ given.1,
    rw becomes (kept_set version events 0 lane lane (lanes_of before) (Answered block) new (omega arith) within
        (kept_answered version (lane + 1) (of_lane lane events) block old new
        (at ∙ kept_at version events 0 lane lane (lanes_of before) old (omega arith) within given.2)
        ok) fits
        given.2),
  )
  gets_answer before after lane block (Err e) old new within at same becomes ok err fits = λ events given. (
    same ∙ given.0,
    ap length becomes ∙ length-set (lanes_of before) lane new ∙ given.1,
    rw (becomes ∙ ap (set (lanes_of before) lane) (err ∙ at) ∙ set-get_or (lanes_of before) lane old) given.2,
  )

  -- an end was taken, or refused
  pub gets_end : (before after : C) (lane : ℕ) (end : LaneEnd) (r : Result (Unit {0}) Refusal) (old new : LaneTextValue)
      → lane < length (lanes_of before) → old ≡ get_or (lanes_of before) lane old → version_of after ≡ version_of before
      → lanes_of after ≡ set (lanes_of before) lane new
      → OnOk r (new ≡ with_end (version_of before) (lane + 1) end old) → OnErr r (new ≡ old) → 1 + new.records < 2 ^ 64
      → Gets Given before (lane, Ended end) (is_ok r) after
  gets_end before after lane end (Ok u) old new within at same becomes ok err fits = λ events given. (
    same ∙ given.0,
    ap length becomes ∙ length-set (lanes_of before) lane new ∙ given.1,
    rw becomes (kept_set version events 0 lane lane (lanes_of before) (Ended end) new (omega arith) within
        (kept_ended version (lane + 1) (of_lane lane events) end old new
        (at ∙ kept_at version events 0 lane lane (lanes_of before) old (omega arith) within given.2)
        (ok ∙ ap (λ v. with_end v (lane + 1) end old) given.0)) fits
        given.2),
  )
  gets_end before after lane end (Err e) old new within at same becomes ok err fits = λ events given. (
    same ∙ given.0,
    ap length becomes ∙ length-set (lanes_of before) lane new ∙ given.1,
    rw (becomes ∙ ap (set (lanes_of before) lane) (err ∙ at) ∙ set-get_or (lanes_of before) lane old) given.2,
  )
