-- One event more: what came of a lane, its records and its lines.
use Rattle.std.proofs.Common.{◌≡◌, inl, inr, ℕ, ◌+◌, ◌<◌, ◌^◌, Bool, true, false, if◌then◌else◌, ◌==◌, List, [], ◌∷◌, ◌++◌, length, Some, arith, refl, ap, sym, ◌∙◌, append-nil, append_assoc, sum_by}
use Rattle.std.specs.Prelude.{flat_map}
use Rattle.std.specs.List.{concat}
use Rattle.std.proofs.lemmas.Bool.{eq-eqb}
use Rattle.std.proofs.lemmas.Bool.Decides.{eqb_tells}
use Rattle.std.proofs.lemmas.List.Folds.{concat-append}
use Rattle.std.proofs.lemmas.List.Sums.{sum_by-cons, sum_by-append}
use Rattle.run_plan.specs.declared.version.Version.{Version}
use Rattle.set_line.specs.Answer.{AnswerValue}
use Rattle.lanes.specs.declared.ending.LaneEnd.{LaneEnd}
use Rattle.formats.specs.Records.{version_of}
use Rattle.line_chunks.specs.ChunkText.{ChunkTextValue, RecordStyle}
use Rattle.batch.specs.Events.{Event, LaneEvent, Answered, Ended, answers_among, lane_events, of_lane}
use Rattle.run_texts.specs.RunText.{end_text, lane_text, record_of, records_from, why_of}
use Rattle.run_texts.specs.LaneText.{chunk_lines, event_lines, events_lines, records_of, refused_of}
use Rattle.run_texts.specs.Streaming.{lane_lines, record_lines}
use Rattle.run_texts.specs.ChunkLanes.{AreRecordsOf}

-- ---- events

pub cond_append : {A : Type 0} (b : Bool) (x : A) (xs ys : List A) → (if b then x ∷ (xs ++ ys) else xs ++ ys) ≡ (if b then x ∷ xs else xs) ++ ys
cond_append true x xs ys = refl
cond_append false x xs ys = refl

pub other_test : (a b : ℕ) → (a ≡ b → ⊥) → (a == b) ≡ false
other_test a b other = elim (eqb_tells a b) [ inl p ↦ absurd (other p.1) | inr p ↦ p.0 ]

module _ {O : Type 0} where
  -- one event more of this lane
  pub of_lane_more : (lane n : ℕ) (events : List (Event O)) (event : LaneEvent O) → n ≡ lane → of_lane lane (events ++ (n, event) ∷ []) ≡ of_lane lane events ++ event ∷ []
  of_lane_more lane n [] event same = ap (λ b. if b then event ∷ [] else []) (eq-eqb n lane same)
  of_lane_more lane n (e ∷ events) event same =
      ap (λ more. if e.0 == lane then e.1 ∷ more else more) (of_lane_more lane n events event same)
      ∙ cond_append (e.0 == lane) e.1 (of_lane lane events) (event ∷ [])

  -- one event more of another lane
  pub of_lane_other : (lane n : ℕ) (events : List (Event O)) (event : LaneEvent O) → (n == lane) ≡ false → of_lane lane (events ++ (n, event) ∷ []) ≡ of_lane lane events
  of_lane_other lane n [] event other = ap (λ b. if b then event ∷ [] else []) other
  of_lane_other lane n (e ∷ events) event other =
      ap (λ more. if e.0 == lane then e.1 ∷ more else more) (of_lane_other lane n events event other)

  -- the results among one event more
  pub among_answered : (events : List (LaneEvent O)) (answer : O) → answers_among (events ++ Answered answer ∷ []) ≡ answers_among events ++ answer ∷ []
  among_answered [] answer = refl
  among_answered (Answered a ∷ events) answer = ap (λ more. a ∷ more) (among_answered events answer)
  among_answered (Ended e ∷ events) answer = among_answered events answer

  pub among_ended : (events : List (LaneEvent O)) (end : LaneEnd) → answers_among (events ++ Ended end ∷ []) ≡ answers_among events
  among_ended [] end = refl
  among_ended (Answered a ∷ events) end = ap (λ more. a ∷ more) (among_ended events end)
  among_ended (Ended e ∷ events) end = among_ended events end

-- ---- counts

-- a sum of one more
one_summed : {T : Type 0} (count : T → ℕ) (texts : List T) (text : T) → sum_by count (texts ++ text ∷ []) ≡ sum_by count texts + count text
one_summed count texts text =
    let last = sum_by-cons count text [] in let both = sum_by-append count texts (text ∷ []) in omega (arith, last, both)

pub records_more : (events : List (LaneEvent ChunkTextValue)) (text : ChunkTextValue)
    → records_of (answers_among (events ++ Answered text ∷ [])) ≡ records_of (answers_among events) + text.lines
records_more events text = ap records_of (among_answered events text) ∙ one_summed (λ t. t.lines) (answers_among events) text

pub refused_more : (events : List (LaneEvent ChunkTextValue)) (text : ChunkTextValue)
    → refused_of (answers_among (events ++ Answered text ∷ [])) ≡ refused_of (answers_among events) + text.refused
refused_more events text = ap refused_of (among_answered events text) ∙ one_summed (λ t. t.refused) (answers_among events) text

-- ---- lines

-- the lines of one event more
pub lines_more : (source : ℕ) (version : Version) (before count : ℕ) (events : List (LaneEvent ChunkTextValue)) (event : LaneEvent ChunkTextValue)
    → count ≡ before + records_of (answers_among events)
    → events_lines source version before (events ++ event ∷ []) ≡ events_lines source version before events ++ event_lines source version count event
lines_more source version before count [] (Answered text) is = append-nil (chunk_lines text)
lines_more source version before count [] (Ended end) is =
    let same : before ≡ count = omega (arith, is) in ap (λ n. event_lines source version n (Ended end)) same
lines_more source version before count (Answered text ∷ events) event is =
    let sum = sum_by-cons (λ (t : ChunkTextValue). t.lines) text (answers_among events) in
    let at : count ≡ before + text.lines + records_of (answers_among events) = omega (arith, is, sum) in
    ap (λ t. chunk_lines text ++ t) (lines_more source version (before + text.lines) count events event at)
    ∙ sym (append_assoc (chunk_lines text) (events_lines source version (before + text.lines) events) (event_lines source version count event))
lines_more source version before count (Ended e ∷ events) event is =
    ap (λ t. event_lines source version before (Ended e) ++ t) (lines_more source version before count events event is)

-- the lines of a lane with these blocks
lines_of_lane : (source : ℕ) (version : Version) (before count : ℕ) (texts : List ChunkTextValue) (end : LaneEnd)
    → count ≡ before + records_of texts
    → events_lines source version before (lane_events texts (Some end)) ≡ flat_map chunk_lines texts ++ end_text source version (why_of end) count ∷ []
lines_of_lane source version before count [] end is =
    let same : before ≡ count = omega (arith, is) in ap (λ n. end_text source version (why_of end) n ∷ []) same
lines_of_lane source version before count (text ∷ texts) end is =
    let sum = sum_by-cons (λ (t : ChunkTextValue). t.lines) text texts in
    let at : count ≡ before + text.lines + records_of texts = omega (arith, is, sum) in
    ap (λ t. chunk_lines text ++ t) (lines_of_lane source version (before + text.lines) count texts end at)
    ∙ sym (append_assoc (chunk_lines text) (flat_map chunk_lines texts) (end_text source version (why_of end) count ∷ []))

-- the lines of a lane are those of its results
pub lane_lined : (source : ℕ) (style : RecordStyle) (events : List (LaneEvent ChunkTextValue)) (answers : List AnswerValue) (end : LaneEnd)
    → events ≡ lane_events (answers_among events) (Some end) → AreRecordsOf source style answers (answers_among events) → 1 + length answers < 2 ^ 64
    → events_lines source (version_of style.format) 0 events ≡ lane_lines source style answers end
lane_lined source style events answers end came are fits =
    ap (events_lines source (version_of style.format) 0) came
    ∙ lines_of_lane source (version_of style.format) 0 (records_of (answers_among events)) (answers_among events) end (omega arith)
    ∙ ap (λ n. flat_map chunk_lines (answers_among events) ++ end_text source (version_of style.format) (why_of end) n ∷ []) are.0
    ∙ ap (λ lines. lines ++ end_text source (version_of style.format) (why_of end) (length answers) ∷ []) (are.1 fits).1

-- the output of one event more
pub text_more : (source : ℕ) (version : Version) (events : List (LaneEvent ChunkTextValue)) (event : LaneEvent ChunkTextValue)
    → concat (events_lines source version 0 (events ++ event ∷ []))
    ≡ concat (events_lines source version 0 events) ++ concat (event_lines source version (records_of (answers_among events)) event)
text_more source version events event =
    ap concat (lines_more source version 0 (records_of (answers_among events)) events event (omega arith))
    ∙ concat-append (events_lines source version 0 events) (event_lines source version (records_of (answers_among events)) event)

-- ---- the lines of a lane, joined

records_joined : (source place : ℕ) (style : RecordStyle) (answers : List AnswerValue) (last : List ℕ)
    → concat (record_lines source place style answers ++ last ∷ []) ≡ records_from source place style answers ++ last
records_joined source place style [] last = append-nil last
records_joined source place style (answer ∷ answers) last =
    ap (λ t. record_of style source place answer ++ t) (records_joined source (place + 1) style answers last)
    ∙ sym (append_assoc (record_of style source place answer) (records_from source (place + 1) style answers) last)

pub lane_joined : (source : ℕ) (style : RecordStyle) (answers : List AnswerValue) (end : LaneEnd)
    → concat (lane_lines source style answers end) ≡ lane_text source style answers (why_of end)
lane_joined source style answers end = records_joined source 1 style answers (end_text source (version_of style.format) (why_of end) (length answers))
