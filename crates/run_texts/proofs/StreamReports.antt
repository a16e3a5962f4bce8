-- The reports of a run whose lines were written as they came.
use Rattle.std.proofs.Common.{◌≡◌, ◌<◌, ℕ, zero, suc, ◌+◌, ◌^◌, ◌≤◌, Bool, true, false, cond, ◌==◌, List, [], ◌∷◌, length, sum_by, All, Option, Some, inl, inr, arith, ap, sym, subst, ◌∙◌}
use Rattle.std.proofs.lemmas.List.Elements.{All-cons, All-head, All-nil, All-tail}
use Rattle.std.proofs.lemmas.Bool.{eq-eqb}
use Rattle.std.proofs.lemmas.Bool.Decides.{leb_tells}
use Rattle.std.specs.Prelude.{IsSome, Result, Ok, Err, IfOk, OnOk}
use Rattle.std.specs.List.{concat}
use Rattle.std.specs.declared.sync.Arc.{Arc}
use Rattle.std.specs.declared.alloc.Global.{Global}
use Rattle.std.specs.Io.KnownBytes.{Appends}
use Rattle.run_plan.specs.declared.version.Version.{Version}
use Rattle.set_line.specs.Answer.{AnswerValue}
use Rattle.set_line.specs.Terms.{TermsValue}
use Rattle.lanes.specs.declared.fault.SourceFault.{SourceFault}
use Rattle.lanes.specs.declared.ending.LaneEnd.{LaneEnd}
use Rattle.formats.specs.Records.{version_of}
use Rattle.line_chunks.specs.ChunkText.{ChunkTextValue, RecordStyle}
use Rattle.batch.specs.Events.{Event, answers_in, lane_events, of_lane}
use Rattle.batch.specs.Closed.{HasNoOthers}
use Rattle.set_run.specs.declared.report.LaneReport.{LaneReport}
use Rattle.batch.specs.declared.run_end.ClosedLane.{ClosedLane}
use Rattle.run_texts.specs.declared.fault.ToolFault.{ToolFault}
use Rattle.run_texts.specs.ReportText.{summary_of_lanes, summary_of_run}
use Rattle.set_run.specs.Reports.{AreReported}
use Rattle.run_texts.specs.Streaming.{AreOfSources, HaveLines, IsStreamed, SourceLine, lane_lines, of_source}
use Rattle.run_texts.specs.ChunkLanes.{AreClosedIn, AreRecordsOf}
use Rattle.run_texts.specs.StreamState.{AreCounts, AreLinesOf, AreOut, IsCountOf, StreamStart}
use Rattle.run_texts.specs.LaneText.{events_lines}
use Rattle.run_texts.specs.declared.record_count.RecordCount.{RecordCount}
use Rattle.run_texts.specs.declared.summary.Summary.{Summary}
use Rattle.run_texts.proofs.EventLemmas.{lane_joined, lane_lined}
use Rattle.run_texts.proofs.ReportLemmas.{AreRefused, HasEnd, are_reported, as_many, end_or, reports_of, some_end, summary_of_reports}
use Rattle.run_texts.proofs.StreamLemmas.{appends_more}
use Rattle.run_texts.proofs.StreamSteps.{StandsSo}

-- ---- the lines of a lane

counts_refused : (events : List (Event ChunkTextValue)) (number : ℕ) (counts : List RecordCount) → AreCounts events number counts
    → AreRefused events (λ (count : RecordCount). count.refused) number counts
counts_refused events number [] are = tt
counts_refused events number (c ∷ counts) are = (are.0.1, omega (arith, c.few, are.0.0), counts_refused events (number + 1) counts are.1)

-- the lines of a source of which this came
own_lines : (style : RecordStyle) (events : List (Event ChunkTextValue)) (lines : List SourceLine) (number : ℕ) (answers : List AnswerValue) (end : LaneEnd) (count : RecordCount)
    → AreLinesOf (version_of style.format) events lines → of_lane number events ≡ lane_events (answers_in number events) (Some end)
    → AreRecordsOf (number + 1) style answers (answers_in number events) → IsCountOf count (answers_in number events)
    → of_source (number + 1) lines ≡ lane_lines (number + 1) style answers end
own_lines style events lines number answers end count are came recorded counted =
    let fits : 1 + length answers < 2 ^ 64 = omega (arith, count.few, counted.0, recorded.0) in
    are.1 number ∙ lane_lined (number + 1) style (of_lane number events) answers end came recorded fits

-- ---- no other lines

others_behind : (b : Bool) (text : List ℕ) (more : List (List ℕ)) → cond b (text ∷ more) more ≡ [] → more ≡ []
others_behind true text more h = absurd (cc)
others_behind false text more h = h

within : (sources : ℕ) (line : SourceLine) (lines : List SourceLine) → of_source 0 (line ∷ lines) ≡ []
    → ((lane : ℕ) → sources ≤ lane → of_source (lane + 1) (line ∷ lines) ≡ []) → (1 ≤ line.0) × (line.0 ≤ sources)
within sources (zero, text) lines none others = absurd (cc)
within sources (suc lane, text) lines none others = elim (leb_tells sources lane) [
  | inl p ↦ absurd (first_there (suc lane == lane + 1) text (of_source (lane + 1) lines) (eq-eqb (suc lane) (lane + 1) (omega arith)) (others lane p.1))
  | inr p ↦ (omega arith, omega (arith, p.1))
]
  where
    first_there : (b : Bool) (text : List ℕ) (more : List (List ℕ)) → b ≡ true → cond b (text ∷ more) more ≡ [] → ⊥
    first_there true text more is h = absurd (cc)
    first_there false text more is h = absurd (cc)

all_within : (sources : ℕ) (lines : List SourceLine) → of_source 0 lines ≡ [] → ((lane : ℕ) → sources ≤ lane → of_source (lane + 1) lines ≡ [])
    → AreOfSources sources lines
all_within sources [] none others = All-nil (λ line. (1 ≤ line.0) × (line.0 ≤ sources))
all_within sources (line ∷ lines) none others =
    All-cons (λ line. (1 ≤ line.0) × (line.0 ≤ sources)) line lines (within sources line lines none others)
    (all_within sources lines (others_behind (line.0 == 0) line.1 (of_source 0 lines) none)
    (λ lane h. others_behind (line.0 == lane + 1) line.1 (of_source (lane + 1) lines) (others lane h)))

pub of_sources : (version : Version) (events : List (Event ChunkTextValue)) (lines : List SourceLine) (sources : ℕ)
    → AreLinesOf version events lines → HasNoOthers events sources → AreOfSources sources lines
of_sources version events lines sources are none =
    all_within sources lines are.0 (λ lane h. are.1 lane ∙ ap (events_lines (lane + 1) version 0) (none lane h))

module _ {S : Type 0} where
  -- the lines of the reports
  have_lines : (to_come : S → Option (List (List ℕ))) (failed : S → Option SourceFault) (style : RecordStyle) (events : List (Event ChunkTextValue)) (lines : List SourceLine)
      (number next : ℕ) (sources : List (S × Arc TermsValue Global)) (lanes : List (ClosedLane S)) (counts : List RecordCount) → next ≡ number + 1
      → (closed : AreClosedIn to_come failed style events number sources lanes) → All (λ lane. IsSome lane.end) lanes → AreLinesOf (version_of style.format) events lines
      → length counts ≡ length sources → AreCounts events number counts
      → HaveLines next style (reports_of to_come failed style events number sources lanes closed) lines
  have_lines to_come failed style events lines number next [] [] counts at closed whole are long counted = tt
  have_lines to_come failed style events lines number next [] (l ∷ lanes) counts at closed whole are long counted = absurd closed
  have_lines to_come failed style events lines number next (s ∷ sources) [] counts at closed whole are long counted = absurd closed
  have_lines to_come failed style events lines number next (s ∷ sources) (l ∷ lanes) [] at closed whole are long counted = absurd (omega (arith, long))
  have_lines to_come failed style events lines number next (s ∷ sources) (l ∷ lanes) (c ∷ counts) at closed whole are long counted =
      let answers = closed.1.0 in
      let own : of_source next lines ≡ lane_lines next style answers (end_or l.end) =
      subst (λ n. of_source n lines ≡ lane_lines n style answers (end_or l.end)) (sym at)
      (own_lines style events lines number answers (end_or l.end) c are
      (closed.0 ∙ ap (lane_events (answers_in number events)) (some_end l.end (All-head HasEnd l lanes whole))) closed.1.1 counted.0) in (
        own,
        ap concat own ∙ lane_joined next style answers (end_or l.end),
        have_lines to_come failed style events lines (number + 1) (next + 1) sources lanes counts (omega arith) closed.2 (All-tail HasEnd l lanes whole) are
            (omega (arith, long)) counted.1,
      )

  module _ (to_come : S → Option (List (List ℕ))) (failed : S → Option SourceFault) (style : RecordStyle) (events : List (Event ChunkTextValue))
      (sources : List (S × Arc TermsValue Global)) (lanes : List (ClosedLane S)) (counts : List RecordCount) (before w : Option (List ℕ)) (block : List ℕ)
      (closed : AreClosedIn to_come failed style events 0 sources lanes) (none : HasNoOthers events (length sources))
      (long : length counts ≡ length sources) (are : AreCounts events 0 counts) where
    -- all was written
    pub all_streamed : (after : Option (List ℕ)) (summary : Summary) → All (λ lane. IsSome lane.end) lanes
        → AreOut (version_of style.format) events before w block → Appends w after block
        → summary ≡ summary_of_lanes (sum_by (λ count. count.refused) counts) lanes
        → (reports : List (LaneReport S)) × AreReported to_come failed sources reports × IsStreamed style reports before after × (summary ≡ summary_of_run style.encoding reports)
    all_streamed after summary whole (lines, lined, (written, appends, all)) rest is =
        let reports : List (LaneReport S) = reports_of to_come failed style events 0 sources lanes closed in (
          reports,
          are_reported to_come failed style events 0 sources lanes closed whole,
          (
            lines,
            (
              have_lines to_come failed style events lines 0 1 sources lanes counts (omega arith) closed whole lined long are,
              subst (λ n. AreOfSources n lines) (sym (as_many to_come failed style events 0 sources lanes closed)) (of_sources (version_of style.format) events lines (length sources) lined none),
            ),
            subst (Appends before after) all (appends_more before w after written block appends rest),
          ),
          is ∙ summary_of_reports to_come failed style events (λ (count : RecordCount). count.refused) sources lanes counts closed whole
              (counts_refused events 0 counts are) long,
        )

-- what holds of what was answered
pub of_ok : {A E : Type 0} (P : A → Type 0) (r : Result A E) (x : A) → r ≡ Ok x → IfOk r P → P x
of_ok P (Ok y) x is h = subst P (let same : y ≡ x = cc in same) h
of_ok P (Err e) x is h = absurd (cc)

-- ---- how a run ends

module _ {S : Type 0} (to_come : S → Option (List (List ℕ))) (failed : S → Option SourceFault) (sources : List (S × Arc TermsValue Global))
    (lanes : List (ClosedLane S)) (start : StreamStart) (name : ℕ) (version : Version) (counts : List RecordCount) (w w' : Option (List ℕ)) (block : List ℕ) where
  -- what a stream was given in a run
  abbrev pub Came : Type 0
  Came =
      (events : List (Event ChunkTextValue))
      × StandsSo start name version counts w block events
      × AreClosedIn to_come failed start.style events 0 sources lanes
      × HasNoOthers events (length sources)

  pub same_name : Came → name ≡ start.name
  same_name (events, stands, closed, none) = stands.0

  pub ends_whole : (r : Result Summary ToolFault) → Came → start.lanes ≡ length sources → OnOk r (Appends w w' block)
      → OnOk r (All (λ lane. IsSome lane.end) lanes) → IfOk r (λ summary. summary ≡ summary_of_lanes (sum_by (λ count. count.refused) counts) lanes)
      → IfOk r (λ summary. (reports : List (LaneReport S)) × AreReported to_come failed sources reports
      × IsStreamed start.style reports start.before w' × (summary ≡ summary_of_run start.style.encoding reports))
  ends_whole (Ok summary) (events, stands, closed, none) long rest whole is =
      all_streamed to_come failed start.style events sources lanes counts start.before w block closed none (stands.2 ∙ long) stands.3 w' summary whole
      stands.4 rest is
  ends_whole (Err fault) came long rest whole is = is
