use Rattle.std.proofs.Common.{arith, rules, List, ◌≡◌, ◌∙◌, [], ap, length, map, sym, Ok, sum_by}
use Rattle.batch.specs.Closed.{IsWhole}
use Rattle.batch.specs.declared.run_end.ClosedLane.{ClosedLane}
use Rattle.batch.specs.declared.run_end.RunEnd.{RunEnd}
use Rattle.line_chunks.specs.declared.chunk_reader.ChunkReader.{ChunkReader}
use Rattle.run_texts.specs.ChunkLanes.{fault_told, lines_told, told_lane, told_readers}
use Rattle.run_texts.specs.ReportText.{summary_of_ends, summary_of_lanes}
use Rattle.run_texts.specs.RunText.{style_of}
use Rattle.run_texts.specs.declared.run_text.RunTexts.{RunTexts}
use Rattle.run_texts.proofs.ChunkRunLemmas.{as_many_read, as_many_told, collected_lines, ends_told, whole_told}
use Rattle.run_texts.proofs.LaneTextLemmas.{Given}
use Rattle.run_texts.proofs.ReportTextLemmas.{kept_run}
use Rattle.run_texts.proofs.setting.set_and_write.Goals as goal

pub returns-clause-text : goal.returns-clause-text
returns-clause-text g c =
    let remaining = g.T.Read.remaining in
    let crlf = c.args.options.now.crlf in
    let style = style_of c.args.options.now in
    let run : RunEnd (ChunkReader g.row.T.Denot) = c.in-Ok-ran.run' in
    let before : RunTexts g.row.K.Denot = c.in-Ok.texts in
    let after : RunTexts g.row.K.Denot = c.run_items-texts.result.0 in
    let given = Given (λ (texts : RunTexts g.row.K.Denot). texts.version) (λ texts. texts.lanes.items) g.K.BatchShape.version g.K.BatchShape.lanes in
    let ran : c.run_items-texts.result.1 ≡ Ok run = c.in-Ok-ran.is in
    let whole : IsWhole run = rw ran at c.run_items-texts.ensures.whole in
    let are = c.in-Ok-chunk_sources.ensures in
    let collected = collected_lines remaining crlf style given before after c.args.readers.items c.in-Ok-chunk_sources.sources.items run are (rw ran at c.run_items-texts.ensures.collected) in
    let begun : given before [] = (search rules, search rules, search rules) in
    let lanes = map (told_lane remaining) run.lanes.items in
    let short : c.summary_of-summary.result ≡ summary_of_lanes (sum_by (λ text. text.refused) after.lanes.items) lanes =
    let refused = sum_by (λ text. text.refused) after.lanes.items in
    c.summary_of-summary.ensures refused (cc)
    ∙ ap (λ (items : List (ClosedLane (ChunkReader g.row.T.Denot))). summary_of_ends refused (map (λ lane. lane.end) items)) c.as_slice-2.ensures.value
    ∙ ap (summary_of_ends refused) (sym (ends_told remaining run.lanes.items)) in
    let many = as_many_told remaining crlf c.args.readers.items in
    let count : g.K.BatchShape.lanes ≡ length (told_readers remaining crlf c.args.readers.items) = omega (arith, c.requires.lanes, many, c.args.readers.ok.0) in
    kept_run (λ (texts : RunTexts g.row.K.Denot). texts.version) (λ texts. texts.lanes.items) g.K.BatchShape.version
    lines_told fault_told (told_readers remaining crlf c.args.readers.items) lanes before after style g.K.BatchShape.lanes
    (g.W.Write.contents c.args.out.now) (g.W.Write.contents c.write.new.out) c.summary_of-summary.result
    c.requires.version count begun (whole_told remaining run.lanes.items (whole (search rules))) collected (search rules) short

pub run_items-texts-requires-clause-lanes : goal.run_items-texts-requires-clause-lanes
run_items-texts-requires-clause-lanes g c = λ κs within.
    let count = as_many_read g.T.Read.remaining c.args.options.now.crlf (style_of c.args.options.now) 1 c.args.readers.items c.in-Ok-chunk_sources.sources.items c.in-Ok-chunk_sources.ensures in
    omega (arith, count, c.in-Ok-chunk_sources.sources.ok.0, c.args.readers.ok.0, c.in-Ok.ensures.lanes, c.len.ensures)

pub returns-in-Err-clause-few : goal.returns-in-Err-clause-few
returns-in-Err-clause-few g c = λ few.
    let count = as_many_read g.T.Read.remaining c.args.options.now.crlf (style_of c.args.options.now) 1 c.args.readers.items c.in-Ok-chunk_sources.sources.items c.in-Ok-chunk_sources.ensures in
    let one = rw c.in-Err.is at c.run_items-texts.ensures.few (omega (arith, few, count, c.in-Ok-chunk_sources.sources.ok.0, c.args.readers.ok.0)) in
    λ fault same. grind arith
