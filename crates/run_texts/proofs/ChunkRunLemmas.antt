-- A batch of chunks, and the lines of its readers.
use Rattle.std.proofs.Common.{rules, arith, ◌≡◌, ℕ, suc, ◌+◌, ◌<◌, ◌^◌, Bool, List, [], ◌∷◌, ◌++◌, length, map, flat_map, Option, Some, None, Result, refl, ap, sym, subst, ◌∙◌}
use Rattle.std.proofs.lemmas.List.{length-append, length-map, map-append}
use Rattle.std.proofs.lemmas.List.Elements.{All-cons, All-head, All-nil, All-tail}
use Rattle.std.specs.Prelude.{All, IsSome, Ok, Err, OnOk}
use Rattle.std.specs.Arc.{arc_value}
use Rattle.std.specs.declared.sync.Arc.{Arc}
use Rattle.std.specs.declared.alloc.Global.{Global}
use Rattle.set_line.specs.Terms.{TermsValue}
use Rattle.set_line.specs.Answer.{answer_of, answers_of}
use Rattle.lanes.specs.declared.fault.SourceFault.{SourceFault}
use Rattle.lanes.specs.declared.ending.SourceEnd.{SourceEnd}
use Rattle.lanes.specs.declared.ending.SourceEnd.TheVariants.{Complete as SourceComplete, Failed}
use Rattle.line_chunks.specs.Chunks.{ChunkLine, ChunkValue, cut, lines_of_chunk, numbered, numbered_cuts}
use Rattle.line_chunks.specs.ChunkText.{ChunkTextValue, MakerValue, RecordStyle, chunk_text}
use Rattle.line_chunks.specs.Reading.{IsChunkOf, ReadsFrom, Told, gives_chunk, gives_told, told, told_unread}
use Rattle.line_chunks.specs.declared.chunk_reader.ChunkReader.{ChunkReader}
use Rattle.batch.specs.Calls.{HasEnded, HasReturned, WasRead}
use Rattle.batch.specs.Closed.{AreClosedOf, HasNoOthers, IsClosedOf, IsCollectedOf, IsWhole}
use Rattle.batch.specs.Events.{Event, answers_in}
use Rattle.batch.specs.declared.run_end.ClosedLane.{ClosedLane}
use Rattle.batch.specs.declared.run_end.RunEnd.{RunEnd}
use Rattle.set_run.proofs.ClosedLines.{closed_line}
use Rattle.run_texts.specs.ChunkLanes.{AreClosedIn, AreReadBy, AreTextsOf, IsCollectedIn, fault_told, lines_told, maker_of, told_lane, told_readers}
use Rattle.run_texts.proofs.ChunkLemmas.{texts_recorded}

-- ---- lists

no_lines : (lines : List (List ℕ)) → map cut lines ≡ [] → lines ≡ []
no_lines [] is = refl
no_lines (line ∷ lines) is = absurd (search rules)

numbered-append : (first : ℕ) (xs ys : List ChunkLine) → numbered first (xs ++ ys) ≡ numbered first xs ++ numbered (first + length xs) ys
numbered-append first [] ys = let at : first ≡ first + 0 = omega arith in ap (λ n. numbered n ys) at
numbered-append first (x ∷ xs) ys =
    let at : first + 1 + length xs ≡ first + length (x ∷ xs) = omega arith in
    ap (λ more. (first, x) ∷ more) (numbered-append (first + 1) xs ys ∙ ap (λ n. numbered (first + 1) xs ++ numbered n ys) at)

-- lines of two parts, with their numbers
cuts-append : (first : ℕ) (xs ys : List (List ℕ)) → numbered_cuts first (xs ++ ys) ≡ numbered_cuts first xs ++ numbered_cuts (first + length xs) ys
cuts-append first xs ys =
    ap (numbered first) (map-append cut xs ys) ∙ numbered-append first (map cut xs) (map cut ys)
    ∙ ap (λ n. numbered_cuts first xs ++ numbered (first + n) (map cut ys)) (length-map xs cut)

-- ---- calls

module _ {S I : Type 0} (gives : S → Result (Option I) SourceFault → S → Type 0) where
  -- calls, one after the other
  returned_then : (before : S) (xs : List I) (now : S) (ys : List I) (after : S) → HasReturned gives before xs now → HasReturned gives now ys after
      → HasReturned gives before (xs ++ ys) after
  returned_then before [] now ys after first then = subst (λ s. HasReturned gives s ys after) first then
  returned_then before (x ∷ xs) now ys after (next, one, rest) then = (next, one, returned_then next xs now ys after rest then)

  returned_parts : (before : S) (xs ys : List I) (after : S) → HasReturned gives before (xs ++ ys) after
      → (now : S) × HasReturned gives before xs now × HasReturned gives now ys after
  returned_parts before [] ys after all = (before, refl, all)
  returned_parts before (x ∷ xs) ys after (next, one, rest) =
      let (now, first, then) = returned_parts next xs ys after rest in (now, (next, one, first), then)

-- ---- chunks of lines

-- these chunks have these lines, with their numbers if they fit
abbrev AreOf : ℕ → List (List ℕ) → List ChunkValue → ℕ → Type 0
AreOf first lines chunks next =
    (flat_map (λ chunk. chunk.lines) chunks ≡ map cut lines)
    × (first + length lines < 2 ^ 64 → (flat_map lines_of_chunk chunks ≡ numbered_cuts first lines) × (next ≡ first + length lines))

one_more : (first : ℕ) (own : List (List ℕ)) (chunk : ChunkValue) (now : ℕ) (lines : List (List ℕ)) (chunks : List ChunkValue) (next : ℕ)
    → IsChunkOf first own chunk now → AreOf now lines chunks next → AreOf first (own ++ lines) (chunk ∷ chunks) next
one_more first own chunk now lines chunks next one are = (
  ap (λ l. l ++ flat_map (λ b. b.lines) chunks) one.1 ∙ ap (λ l. map cut own ++ l) are.0 ∙ sym (map-append cut own lines),
  (λ fits.
      let long = length-append own lines in
      let here = one.2 (omega (arith, fits, long)) in
      let there = are.1 (omega (arith, fits, long, here.1)) in (
        ap (λ l. l ++ flat_map lines_of_chunk chunks) (ap (λ l. numbered chunk.first l) one.1 ∙ ap (λ n. numbered n (map cut own)) here.0)
            ∙ ap (λ l. numbered_cuts first own ++ l) (there.0 ∙ ap (λ n. numbered_cuts n lines) here.1)
            ∙ sym (cuts-append first own lines),
        omega (arith, there.1, here.1, long),
      )),
)

module _ {R : Type 0} (remaining : R → Option (List ℕ)) where
  -- the lines of chunks that were returned
  chunks_read : (before : ChunkReader R) (chunks : List ChunkValue) (after : ChunkReader R) → HasReturned (gives_chunk remaining) before chunks after
      → (lines : List (List ℕ)) × HasReturned gives_told (told remaining before) lines (told remaining after) × AreOf before.next lines chunks after.next
  chunks_read before [] after same =
      let at : before.next ≡ before.next + 0 = omega arith in
      ([], ap (told remaining) same, (refl, λ fits. (refl, ap (λ b. b.next) same ∙ at)))
  chunks_read before (chunk ∷ chunks) after (now, (own, returned, is), rest) =
      let (lines, then, are) = chunks_read now chunks after rest in (
        own ++ lines,
        returned_then gives_told (told remaining before) own (told remaining now) lines (told remaining after) returned then,
        one_more before.next own chunk now.next lines chunks after.next is are,
      )

  -- the end
  chunks_end : (now after : ChunkReader R) (end : Option SourceEnd) → HasEnded (gives_chunk remaining) now end after
      → HasEnded gives_told (told remaining now) end (told remaining after)
  chunks_end now after None same = ap (told remaining) same
  chunks_end now after (Some SourceComplete) one = one
  chunks_end now after (Some (Failed fault)) one = one

  -- a lane of chunks is a lane of lines
  lane_of_chunks : (maker : MakerValue) (begun : Told) (source : ChunkReader R) (texts : List ChunkTextValue) (lane : ClosedLane (ChunkReader R))
      → told remaining source ≡ begun → source.next ≡ 1 → IsClosedOf (gives_chunk remaining) (chunk_text maker) source texts lane
      → (lines : List (List ℕ)) × AreTextsOf maker lines texts
      × IsClosedOf gives_told (answer_of maker.terms) begun (answers_of maker.terms lines) (told_lane remaining lane)
  lane_of_chunks maker begun source texts lane from first made =
      let (now, returned, ended) = made.read in
      let (between, own, second) = returned_parts (gives_chunk remaining) source made.items made.more now returned in
      let (lines, lines_read, are) = chunks_read source made.items between own in
      let (others, others_read, are_others) = chunks_read between made.more now second in
      let all = returned_then gives_told (told remaining source) lines (told remaining between) others (told remaining now) lines_read others_read in
      let no_more : made.more ≡ [] → others ≡ [] = λ none. no_lines others (sym are_others.0 ∙ ap (flat_map (λ b. b.lines)) none) in (
        lines,
        (made.items, made.made, are.0, λ fits. subst (λ n. flat_map lines_of_chunk made.items ≡ numbered_cuts n lines) first (are.1 (subst (λ n. n + length lines < 2 ^ 64) (sym first) fits)).0),
        record {
          items = lines;
          more = others;
          last = made.last;
          made = refl;
          read = subst (λ t. WasRead gives_told t (lines ++ others) made.last (told remaining lane.source)) from
              (told remaining now, all, chunks_end now lane.source made.last ended);
          complete = λ is. let whole = made.complete is in (no_more whole.0, whole.1);
          failed = λ fault is. let whole = made.failed fault is in (no_more whole.0, whole.1);
        },
      )

-- ---- readers

-- as many sources as readers
pub as_many_told : {R : Type 0} (remaining : R → Option (List ℕ)) (crlf : Bool) (readers : List (R × Arc TermsValue Global))
    → length (told_readers remaining crlf readers) ≡ length readers
as_many_told remaining crlf [] = refl
as_many_told remaining crlf (r ∷ readers) = ap suc (as_many_told remaining crlf readers)

module _ {R : Type 0} (remaining : R → Option (List ℕ)) (crlf : Bool) (style : RecordStyle) where
  -- as many
  pub as_many_read : (number : ℕ) (readers : List (R × Arc TermsValue Global)) (sources : List (ChunkReader R × MakerValue))
      → AreReadBy remaining crlf style number readers sources → length sources ≡ length readers
  as_many_read number [] [] are = refl
  as_many_read number [] (s ∷ sources) are = absurd are
  as_many_read number (r ∷ readers) [] are = absurd are
  as_many_read number (r ∷ readers) (s ∷ sources) are = ap suc (as_many_read (number + 1) readers sources are.2)

  -- one more
  pub read_more : (number next : ℕ) (readers : List (R × Arc TermsValue Global)) (sources : List (ChunkReader R × MakerValue))
      (reader : R × Arc TermsValue Global) (source : ChunkReader R × MakerValue) → next ≡ number + length readers
      → AreReadBy remaining crlf style number readers sources → ReadsFrom remaining crlf reader.0 source.0
      → source.1 ≡ maker_of style next (arc_value reader.1)
      → AreReadBy remaining crlf style number (readers ++ reader ∷ []) (sources ++ source ∷ [])
  read_more number next [] [] reader source at are from made =
      let same : next ≡ number = omega (arith, at) in (from, made ∙ ap (λ n. maker_of style n (arc_value reader.1)) same, tt)
  read_more number next [] (s ∷ sources) reader source at are from made = absurd are
  read_more number next (r ∷ readers) [] reader source at are from made = absurd are
  read_more number next (r ∷ readers) (s ∷ sources) reader source at are from made =
      (are.0, are.1, read_more (number + 1) next readers sources reader source (omega (arith, at)) are.2 from made)

  -- the closed lanes, with the lines of their readers
  closed_in : (events : List (Event ChunkTextValue)) (number next : ℕ) (readers : List (R × Arc TermsValue Global))
      (sources : List (ChunkReader R × MakerValue)) (lanes : List (ClosedLane (ChunkReader R))) → next ≡ number + 1
      → AreReadBy remaining crlf style next readers sources
      → AreClosedOf (gives_chunk remaining) chunk_text events number sources lanes
      → AreClosedIn lines_told fault_told style events number (told_readers remaining crlf readers) (map (told_lane remaining) lanes)
  closed_in events number next [] [] [] at are closed = tt
  closed_in events number next [] [] (l ∷ lanes) at are closed = absurd closed
  closed_in events number next [] (s ∷ sources) lanes at are closed = absurd are
  closed_in events number next (r ∷ readers) [] lanes at are closed = absurd are
  closed_in events number next (r ∷ readers) (s ∷ sources) [] at are closed = absurd closed
  closed_in events number next (r ∷ readers) (s ∷ sources) (l ∷ lanes) at are closed =
      let maker : MakerValue = maker_of style (number + 1) (arc_value r.1) in
      let same : s.1 ≡ maker = are.1 ∙ ap (λ n. maker_of style n (arc_value r.1)) at in
      let own = subst (λ m. IsClosedOf (gives_chunk remaining) (chunk_text m) s.0 (answers_in number events) l) same closed.1 in
      let begun = told_unread crlf (remaining r.0) in
      let (lines, texts, lane) = lane_of_chunks remaining maker begun s.0 (answers_in number events) l are.0.0 are.0.1 own in (
        closed.0,
        (
          answers_of maker.terms lines,
          texts_recorded maker lines (answers_in number events) texts,
          closed_line lines_told fault_told maker.terms begun (answers_of maker.terms lines) (told_lane remaining l) lane,
        ),
        closed_in events (number + 1) (next + 1) readers sources lanes (omega (arith, at)) are.2 closed.2,
      )

  -- what a collector of the texts of chunks received is that of lines
  pub collected_lines : {C : Type 0} (given : C → List (Event ChunkTextValue) → Type 0) (before after : C) (readers : List (R × Arc TermsValue Global))
      (sources : List (ChunkReader R × MakerValue)) (run : RunEnd (ChunkReader R)) → AreReadBy remaining crlf style 1 readers sources
      → IsCollectedOf (gives_chunk remaining) chunk_text given sources run before after
      → IsCollectedIn lines_told fault_told style given (told_readers remaining crlf readers) (map (told_lane remaining) run.lanes.items) before after
  collected_lines given before after readers sources run are collected = λ none.
      let (events, has, closed, others) = collected none in (
        events,
        has,
        closed_in events 0 1 readers sources run.lanes.items refl are closed,
        subst (HasNoOthers events) (as_many_read 1 readers sources are ∙ sym (as_many_told remaining crlf readers)) others,
      )

-- ---- what is known of readers, lane by lane

module _ {R : Type 0} (remaining : R → Option (List ℕ)) where
  -- each lane still has its end
  pub whole_told : (lanes : List (ClosedLane (ChunkReader R))) → All (λ lane. IsSome lane.end) lanes → All (λ lane. IsSome lane.end) (map (told_lane remaining) lanes)
  whole_told [] whole = All-nil (λ lane. IsSome lane.end)
  whole_told (l ∷ lanes) whole =
      All-cons (λ lane. IsSome lane.end) (told_lane remaining l) (map (told_lane remaining) lanes) (All-head (λ lane. IsSome lane.end) l lanes whole)
      (whole_told lanes (All-tail (λ lane. IsSome lane.end) l lanes whole))

  -- and it is the same
  pub ends_told : (lanes : List (ClosedLane (ChunkReader R))) → map (λ lane. lane.end) (map (told_lane remaining) lanes) ≡ map (λ lane. lane.end) lanes
  ends_told [] = refl
  ends_told (l ∷ lanes) = ap (λ more. l.end ∷ more) (ends_told lanes)

  -- each lane has ended, unless something was refused
  pub whole_ends : (run : RunEnd (ChunkReader R)) {A E : Type 0} (r : Result A E) → IsWhole run → OnOk r (run.refusal ≡ None)
      → OnOk r (All (λ lane. IsSome lane.end) (map (told_lane remaining) run.lanes.items))
  whole_ends run (Ok a) whole none = whole_told run.lanes.items (whole none)
  whole_ends run (Err e) whole none = none
