use Rattle.std.proofs.Common.{◌≡◌, map, sym, subst, length, sum_by, arith}
use Rattle.std.specs.Prelude.{IfOk}
use Rattle.run_texts.specs.ChunkLanes.{fault_told, lines_told, told_lane, told_readers}
use Rattle.run_texts.specs.ReportText.{summary_of_ends}
use Rattle.run_texts.specs.RunText.{style_of}
use Rattle.run_texts.specs.StreamState.{StreamStart}
use Rattle.run_texts.proofs.ChunkRunLemmas.{as_many_told, ends_told, whole_ends}
use Rattle.run_texts.proofs.StreamSteps.{begins}
use Rattle.run_texts.proofs.StreamReports.{ends_whole, of_ok, same_name}
use Rattle.run_texts.proofs.streaming.stream_readers.Goals as goal

pub returns-in-Ok-clause-text : goal.returns-in-Ok-clause-text
returns-in-Ok-clause-text g c =
    let s = c.run_over-stream.result.0 in
    let remaining = g.T.Read.remaining in
    let crlf = c.args.options.now.crlf in
    let before = g.W.Write.contents c.args.out.now in
    let run = c.in-Ok.run' in
    let sources = told_readers remaining crlf c.args.readers.items in
    let lanes = map (told_lane remaining) run.lanes.items in
    let start : StreamStart = record { before = before; name = _; style = style_of c.args.options.now; lanes = length c.in_ok-counts.counts.items } in
    let collected = of_ok _ c.run_over-stream.result.1 run c.in-Ok.is c.run_over-stream.ensures.collected in
    let came = collected (begins _ (style_of c.args.options.now) c.version-version.result c.in_ok-counts.counts.items before c.in_ok-buffer.buffer.items c.version-version.ensures c.in_ok-counts.ensures.none c.in_ok-buffer.ensures.head) in
    let last = c.out-1.given.1 (sym (same_name lines_told fault_told sources lanes start
    s.out.ghost_name s.version s.counts.items (g.W.Write.contents s.out.now) before s.buffer.items came)) in
    let many = as_many_told remaining crlf c.args.readers.items in
    let long : length c.in_ok-counts.counts.items ≡ length sources =
    omega (arith, c.in_ok-counts.ensures.lanes, c.len-2.ensures, c.args.readers.ok.0, many) in
    rw last (ends_whole lines_told fault_told sources lanes start
    s.out.ghost_name s.version s.counts.items (g.W.Write.contents s.out.now) (g.W.Write.contents c.finish.new.out) s.buffer.items c.finish.result came long c.finish.ensures.text
    (whole_ends remaining run c.finish.result (of_ok _ c.run_over-stream.result.1 run c.in-Ok.is c.run_over-stream.ensures.whole) c.finish.ensures.whole)
    (subst (λ ends. IfOk c.finish.result (λ summary. summary ≡ summary_of_ends (sum_by (λ count. count.refused) s.counts.items) ends)) (sym (ends_told remaining run.lanes.items))
    (subst (λ counts. IfOk c.finish.result (λ summary. summary ≡ summary_of_ends (sum_by (λ count. count.refused) counts) (map (λ lane. lane.end) run.lanes.items))) c.as_slice.ensures.value c.finish.ensures.summary)))
