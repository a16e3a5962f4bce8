-- A stream, event by event.
use Rattle.std.proofs.Common.{◌≡◌, ℕ, ◌+◌, ◌<◌, List, [], ◌∷◌, ◌++◌, length, get_or, Option, arith, refl, ap, sym, subst, ◌∙◌, append_assoc, append-nil, length-set}
use Rattle.std.proofs.Math.ListN.{set}
use Rattle.std.proofs.lemmas.List.{set-get_or}
use Rattle.std.specs.List.{concat}
use Rattle.std.specs.Io.KnownBytes.{Keeps}
use Rattle.run_plan.specs.declared.version.Version.{Version}
use Rattle.lanes.specs.declared.ending.LaneEnd.{LaneEnd}
use Rattle.batch.specs.Events.{Event, LaneEvent, Answered, Ended, answers_in}
use Rattle.formats.specs.Records.{version_of}
use Rattle.line_chunks.specs.ChunkText.{ChunkTextValue, RecordStyle}
use Rattle.run_texts.specs.RunText.{end_text, head_text, why_of}
use Rattle.run_texts.specs.Streaming.{merged_text}
use Rattle.run_texts.specs.LaneText.{chunk_lines, event_lines, records_of}
use Rattle.run_texts.specs.StreamState.{AreCounts, AreOut, MovesOut, IsCountOf, StreamStart}
use Rattle.run_texts.specs.declared.record_count.RecordCount.{RecordCount}
use Rattle.run_texts.proofs.StreamLemmas.{appends_nothing, moves_more, nothing_appended}
use Rattle.run_texts.proofs.StreamEvents.{count_answered, count_ended, counts_at, counts_set, event_lined, merged_more, sourced}

-- how a stream stands that began so and was given these events
abbrev pub StandsSo : StreamStart → ℕ → Version → List RecordCount → Option (List ℕ) → List ℕ → List (Event ChunkTextValue) → Type 0
StandsSo start name version counts written block events =
    (name ≡ start.name)
    × (version ≡ (version_of start.style.format))
    × (length counts ≡ start.lanes)
    × AreCounts events 0 counts
    × AreOut (version_of start.style.format) events start.before written block

-- the lines of one event more
out_more : (version : Version) (events : List (Event ChunkTextValue)) (before after : Option (List ℕ)) (block block' : List ℕ) (lane : ℕ) (event : LaneEvent ChunkTextValue) (texts : List (List ℕ))
    → texts ≡ event_lines (lane + 1) version (records_of (answers_in lane events)) event → block' ≡ block ++ concat texts
    → AreOut version events before after block → AreOut version (events ++ (lane, event) ∷ []) before after block'
out_more version events before after block block' lane event texts is more (lines, are, (written, appends, all)) = (
  lines ++ sourced (lane + 1) texts,
  event_lined version events lines lane event texts is are,
  (
    written,
    appends,
    ap (λ b. written ++ b) more ∙ sym (append_assoc written block (concat texts)) ∙ ap (λ t. t ++ concat texts) all
        ∙ append_assoc (head_text version) (merged_text lines) (concat texts) ∙ ap (λ t. head_text version ++ t) (sym (merged_more lines (lane + 1) texts)),
  ),
)

-- some of the block was written
pub goes_on : (start : StreamStart) (name name' : ℕ) (version version' : Version) (counts counts' : List RecordCount) (w w' : Option (List ℕ)) (b b' : List ℕ) (events : List (Event ChunkTextValue))
    → name' ≡ name → version' ≡ version → counts' ≡ counts → MovesOut w b w' b'
    → StandsSo start name version counts w b events → StandsSo start name' version' counts' w' b' events
goes_on start name name' version version' counts counts' w w' b b' events same_name same_version same_counts moves (named, form, lanes, are, (lines, lined, out)) = (
  same_name ∙ named,
  same_version ∙ form,
  ap length same_counts ∙ lanes,
  subst (AreCounts events 0) (sym same_counts) are,
  (lines, lined, moves_more start.before w w' (head_text (version_of start.style.format) ++ merged_text lines) b b' out moves),
)

-- the writer was flushed
pub flushed : (start : StreamStart) (name : ℕ) (version : Version) (counts : List RecordCount) (w w' : Option (List ℕ)) (b : List ℕ) (events : List (Event ChunkTextValue))
    → Keeps w w' → StandsSo start name version counts w b events → StandsSo start name version counts w' b events
flushed start name version counts w w' b events keeps stands =
    goes_on start name name version version counts counts w w' b b events refl refl refl ([], nothing_appended w w' keeps, refl) stands

-- a stream begins
pub begins : (name : ℕ) (style : RecordStyle) (version : Version) (counts : List RecordCount) (w : Option (List ℕ)) (block : List ℕ) → version ≡ version_of style.format → AreCounts [] 0 counts
    → block ≡ head_text version → StandsSo (record { before = w; name = name; style = style; lanes = length counts }) name version counts w block []
begins name style version counts w block asked none is =
    (refl, asked, refl, none, ([], (refl, λ lane. refl), ([], appends_nothing w, is ∙ ap head_text asked ∙ sym (append-nil (head_text (version_of style.format))))))

-- the text of a block was taken
pub taken : (start : StreamStart) (name : ℕ) (version : Version) (counts : List RecordCount) (w : Option (List ℕ)) (b b' : List ℕ) (events : List (Event ChunkTextValue))
    (lane : ℕ) (block : ChunkTextValue) (count new : RecordCount)
    → lane < length counts → count ≡ get_or counts lane count
    → b' ≡ b ++ concat (chunk_lines block)
    → new.records ≡ count.records + block.lines → new.refused ≡ count.refused + block.refused
    → StandsSo start name version counts w b events → StandsSo start name version (set counts lane new) w b' (events ++ (lane, Answered block) ∷ [])
taken start name version counts w b b' events lane block count new within at more records refused (named, form, lanes, are, out) =
    let was : IsCountOf count (answers_in lane events) =
    subst (λ n. IsCountOf n (answers_in lane events)) (sym at) (counts_at events 0 lane lane counts count (omega arith) within are) in (
      named,
      form,
      length-set counts lane new ∙ lanes,
      counts_set events 0 lane lane counts (Answered block) new (omega arith) within (count_answered count new lane events block was records refused) are,
      out_more (version_of start.style.format) events start.before w b b' lane (Answered block) (chunk_lines block) refl more out,
    )

-- an end was taken
pub ended : (start : StreamStart) (name : ℕ) (version : Version) (counts : List RecordCount) (w : Option (List ℕ)) (b b' : List ℕ) (events : List (Event ChunkTextValue))
    (lane : ℕ) (end : LaneEnd) (count : RecordCount)
    → lane < length counts → count ≡ get_or counts lane count
    → b' ≡ b ++ end_text (lane + 1) version (why_of end) count.records
    → StandsSo start name version counts w b events → StandsSo start name version counts w b' (events ++ (lane, Ended end) ∷ [])
ended start name version counts w b b' events lane end count within at more (named, form, lanes, are, out) =
    let was : IsCountOf count (answers_in lane events) =
    subst (λ n. IsCountOf n (answers_in lane events)) (sym at) (counts_at events 0 lane lane counts count (omega arith) within are) in
    let line : end_text (lane + 1) version (why_of end) count.records ∷ [] ≡ event_lines (lane + 1) (version_of start.style.format) (records_of (answers_in lane events)) (Ended end) =
    ap (λ n. end_text (lane + 1) version (why_of end) n ∷ []) was.0 ∙ ap (λ v. end_text (lane + 1) v (why_of end) (records_of (answers_in lane events)) ∷ []) form in
    let same : set counts lane count ≡ counts = ap (set counts lane) at ∙ set-get_or counts lane count in (
      named,
      form,
      lanes,
      subst (AreCounts (events ++ (lane, Ended end) ∷ []) 0) same
          (counts_set events 0 lane lane counts (Ended end) count (omega arith) within (count_ended count lane events end was) are),
      out_more (version_of start.style.format) events start.before w b b' lane (Ended end) (end_text (lane + 1) version (why_of end) count.records ∷ []) line
          (more ∙ ap (λ t. b ++ t) (sym (append-nil (end_text (lane + 1) version (why_of end) count.records)))) out,
    )
