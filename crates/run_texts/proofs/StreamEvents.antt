-- Lines and counts of what came, event by event.
use Rattle.std.proofs.Common.{◌≡◌, ℕ, zero, suc, ◌+◌, ◌<◌, false, if◌then◌else◌, ◌==◌, List, [], ◌∷◌, ◌++◌, length, get_or, arith, refl, ap, sym, subst, ◌∙◌, append_assoc, append-nil, inl, inr}
use Rattle.std.specs.List.{concat}
use Rattle.std.proofs.Math.ListN.{set}
use Rattle.std.proofs.lemmas.Bool.{eq-eqb}
use Rattle.std.proofs.lemmas.Bool.Decides.{eqb_tells}
use Rattle.run_plan.specs.declared.version.Version.{Version}
use Rattle.lanes.specs.declared.ending.LaneEnd.{LaneEnd}
use Rattle.line_chunks.specs.ChunkText.{ChunkTextValue}
use Rattle.batch.specs.Events.{Event, LaneEvent, Answered, Ended, answers_among, answers_in, of_lane}
use Rattle.run_texts.specs.Streaming.{SourceLine, merged_text, of_source}
use Rattle.run_texts.specs.LaneText.{event_lines, events_lines, records_of, refused_of}
use Rattle.run_texts.specs.StreamState.{AreCounts, AreLinesOf, IsCountOf}
use Rattle.run_texts.specs.declared.record_count.RecordCount.{RecordCount}
use Rattle.run_texts.proofs.EventLemmas.{among_ended, cond_append, lines_more, of_lane_more, of_lane_other, other_test, records_more, refused_more}

-- ---- lines of sources

-- these lines with the number of their source
abbrev pub sourced : ℕ → List (List ℕ) → List SourceLine
sourced source [] = []
sourced source (text ∷ texts) = (source, text) ∷ sourced source texts

all_own : (source n : ℕ) (texts : List (List ℕ)) → n ≡ source → of_source source (sourced n texts) ≡ texts
all_own source n [] same = refl
all_own source n (text ∷ texts) same =
    ap (λ b. if b then text ∷ of_source source (sourced n texts) else of_source source (sourced n texts)) (eq-eqb n source same)
    ∙ ap (λ more. text ∷ more) (all_own source n texts same)

all_other : (source n : ℕ) (texts : List (List ℕ)) → (n == source) ≡ false → of_source source (sourced n texts) ≡ []
all_other source n [] other = refl
all_other source n (text ∷ texts) other =
    ap (λ b. if b then text ∷ of_source source (sourced n texts) else of_source source (sourced n texts)) other
    ∙ all_other source n texts other

-- the lines of a source in two parts
of_source-append : (source : ℕ) (lines more : List SourceLine) → of_source source (lines ++ more) ≡ of_source source lines ++ of_source source more
of_source-append source [] more = refl
of_source-append source (l ∷ lines) more =
    ap (λ rest. if l.0 == source then l.1 ∷ rest else rest) (of_source-append source lines more)
    ∙ cond_append (l.0 == source) l.1 (of_source source lines) (of_source source more)

-- lines more of this source
of_source_more : (source n : ℕ) (lines : List SourceLine) (texts : List (List ℕ)) → n ≡ source
    → of_source source (lines ++ sourced n texts) ≡ of_source source lines ++ texts
of_source_more source n lines texts same =
    of_source-append source lines (sourced n texts) ∙ ap (λ more. of_source source lines ++ more) (all_own source n texts same)

-- lines more of another source
of_source_other : (source n : ℕ) (lines : List SourceLine) (texts : List (List ℕ)) → (n == source) ≡ false
    → of_source source (lines ++ sourced n texts) ≡ of_source source lines
of_source_other source n lines texts other =
    of_source-append source lines (sourced n texts) ∙ ap (λ more. of_source source lines ++ more) (all_other source n texts other)
    ∙ append-nil (of_source source lines)

-- the text of lines more
merged_own : (source : ℕ) (texts : List (List ℕ)) → merged_text (sourced source texts) ≡ concat texts
merged_own source [] = refl
merged_own source (text ∷ texts) = ap (λ t. text ++ t) (merged_own source texts)

pub merged_more : (lines : List SourceLine) (source : ℕ) (texts : List (List ℕ)) → merged_text (lines ++ sourced source texts) ≡ merged_text lines ++ concat texts
merged_more [] source texts = merged_own source texts
merged_more (l ∷ lines) source texts = ap (λ t. l.1 ++ t) (merged_more lines source texts) ∙ sym (append_assoc l.1 (merged_text lines) (concat texts))

-- ---- lines of events

-- one event more, and its lines
pub event_lined : (version : Version) (events : List (Event ChunkTextValue)) (lines : List SourceLine) (lane : ℕ) (event : LaneEvent ChunkTextValue) (texts : List (List ℕ))
    → texts ≡ event_lines (lane + 1) version (records_of (answers_in lane events)) event
    → AreLinesOf version events lines → AreLinesOf version (events ++ (lane, event) ∷ []) (lines ++ sourced (lane + 1) texts)
event_lined version events lines lane event texts is so_far = (
  of_source_other 0 (lane + 1) lines texts (other_test (lane + 1) 0 (λ (e : lane + 1 ≡ 0). omega arith)) ∙ so_far.0,
  λ (i : ℕ). elim (eqb_tells lane i) [ inl p ↦ this i p.1 | inr p ↦ other i p.1 ],
)
  where
    this : (i : ℕ) → lane ≡ i → of_source (i + 1) (lines ++ sourced (lane + 1) texts) ≡ events_lines (i + 1) version 0 (of_lane i (events ++ (lane, event) ∷ []))
    this i same =
        let up : lane + 1 ≡ i + 1 = ap (λ n. n + 1) same in
        of_source_more (i + 1) (lane + 1) lines texts up
        ∙ ap (λ xs. xs ++ texts) (so_far.1 i)
        ∙ ap (λ t. events_lines (i + 1) version 0 (of_lane i events) ++ t) (is ∙ ap (λ n. event_lines (n + 1) version (records_of (answers_in n events)) event) same)
        ∙ sym (lines_more (i + 1) version 0 (records_of (answers_in i events)) (of_lane i events) event (omega arith))
        ∙ ap (events_lines (i + 1) version 0) (sym (of_lane_more i lane events event same))

    other : (i : ℕ) → (lane ≡ i → ⊥) → of_source (i + 1) (lines ++ sourced (lane + 1) texts) ≡ events_lines (i + 1) version 0 (of_lane i (events ++ (lane, event) ∷ []))
    other i differs =
        of_source_other (i + 1) (lane + 1) lines texts (other_test (lane + 1) (i + 1) (λ (e : lane + 1 ≡ i + 1). let same : lane ≡ i = omega arith in differs same))
        ∙ so_far.1 i
        ∙ ap (events_lines (i + 1) version 0) (sym (of_lane_other i lane events event (other_test lane i differs)))

-- ---- counts

-- one block more
pub count_answered : (count new : RecordCount) (lane : ℕ) (events : List (Event ChunkTextValue)) (block : ChunkTextValue) → IsCountOf count (answers_in lane events)
    → new.records ≡ count.records + block.lines → new.refused ≡ count.refused + block.refused
    → IsCountOf new (answers_in lane (events ++ (lane, Answered block) ∷ []))
count_answered count new lane events block was records refused =
    let all : of_lane lane (events ++ (lane, Answered block) ∷ []) ≡ of_lane lane events ++ Answered block ∷ [] =
    of_lane_more lane lane events (Answered block) refl in (
      records ∙ ap (λ n. n + block.lines) was.0 ∙ sym (ap (λ came. records_of (answers_among came)) all ∙ records_more (of_lane lane events) block),
      refused ∙ ap (λ n. n + block.refused) was.1 ∙ sym (ap (λ came. refused_of (answers_among came)) all ∙ refused_more (of_lane lane events) block),
    )

-- an end
pub count_ended : (count : RecordCount) (lane : ℕ) (events : List (Event ChunkTextValue)) (end : LaneEnd) → IsCountOf count (answers_in lane events)
    → IsCountOf count (answers_in lane (events ++ (lane, Ended end) ∷ []))
count_ended count lane events end was =
    let all : answers_in lane (events ++ (lane, Ended end) ∷ []) ≡ answers_in lane events =
    ap answers_among (of_lane_more lane lane events (Ended end) refl) ∙ among_ended (of_lane lane events) end in
    (was.0 ∙ sym (ap records_of all), was.1 ∙ sym (ap refused_of all))

pub counts_at : (events : List (Event ChunkTextValue)) (number i n : ℕ) (counts : List RecordCount) (d : RecordCount)
    → n ≡ number + i → i < length counts → AreCounts events number counts → IsCountOf (get_or counts i d) (answers_in n events)
counts_at events number i n [] d at within are = absurd (omega (arith, within))
counts_at events number zero n (count ∷ counts) d at within are =
    let same : number ≡ n = omega arith in subst (λ m. IsCountOf count (answers_in m events)) same are.0
counts_at events number (suc i) n (count ∷ counts) d at within are =
    counts_at events (number + 1) i n counts d (omega arith) (omega (arith, within)) are.1

-- what came of another lane
count_same : (count : RecordCount) (number n : ℕ) (events : List (Event ChunkTextValue)) (event : LaneEvent ChunkTextValue) → (n ≡ number → ⊥)
    → IsCountOf count (answers_in number events) → IsCountOf count (answers_in number (events ++ (n, event) ∷ []))
count_same count number n events event differs is =
    subst (λ xs. IsCountOf count (answers_among xs)) (sym (of_lane_other number n events event (other_test n number differs))) is

counts_same : (events : List (Event ChunkTextValue)) (n : ℕ) (event : LaneEvent ChunkTextValue) (number : ℕ) (counts : List RecordCount)
    → n < number → AreCounts events number counts → AreCounts (events ++ (n, event) ∷ []) number counts
counts_same events n event number [] before are = tt
counts_same events n event number (count ∷ counts) before are =
    (count_same count number n events event (λ (e : n ≡ number). omega arith) are.0, counts_same events n event (number + 1) counts (omega arith) are.1)

-- one event more
pub counts_set : (events : List (Event ChunkTextValue)) (number i n : ℕ) (counts : List RecordCount) (event : LaneEvent ChunkTextValue) (new : RecordCount)
    → n ≡ number + i → i < length counts → IsCountOf new (answers_in n (events ++ (n, event) ∷ []))
    → AreCounts events number counts → AreCounts (events ++ (n, event) ∷ []) number (set counts i new)
counts_set events number i n [] event new at within is are = absurd (omega (arith, within))
counts_set events number zero n (count ∷ counts) event new at within is are =
    let same : n ≡ number = omega arith in
    (subst (λ m. IsCountOf new (answers_in m (events ++ (n, event) ∷ []))) same is, counts_same events n event (number + 1) counts (omega arith) are.1)
counts_set events number (suc i) n (count ∷ counts) event new at within is are = (
  count_same count number n events event (λ (e : n ≡ number). omega arith) are.0,
  counts_set events (number + 1) i n counts event new (omega arith) (omega (arith, within)) is are.1,
)

-- no lane has come yet
pub counts_more : (number : ℕ) (counts : List RecordCount) (count : RecordCount) → count.records ≡ 0 → count.refused ≡ 0
    → AreCounts [] number counts → AreCounts [] number (counts ++ count ∷ [])
counts_more number [] count answers refused are = ((answers, refused), tt)
counts_more number (c ∷ counts) count answers refused are = (are.0, counts_more (number + 1) counts count answers refused are.1)
