use Rattle.std.proofs.Common.{rules, arith, ◌≡◌, ◌+◌, ◌++◌, [], ◌∷◌, length, subst, sym}
use Rattle.line_chunks.specs.ChunkText.{MakerValue}
use Rattle.line_chunks.specs.declared.chunk_reader.ChunkReader.{ChunkReader}
use Rattle.run_texts.specs.ChunkLanes.{AreReadBy}
use Rattle.run_texts.specs.RunText.{style_of}
use Rattle.run_texts.proofs.ChunkRunLemmas.{as_many_read, read_more}
use Rattle.run_texts.proofs.chunk_run.chunk_sources.Goals as goal

pub loop-pair-preserved : goal.loop-pair-preserved
loop-pair-preserved g c =
    let crlf = c.args.options.now.crlf in
    let style = style_of c.args.options.now in
    let one : ChunkReader g.row.R.Denot × MakerValue = (c.new-source.result, c.with_encoding.result) in
    let more : c.push.new.self.items ≡ c.loop-pair.sources.items ++ one ∷ [] = search rules in
    let count = as_many_read g.R.Read.remaining crlf style 1 c.loop-pair.yielded c.loop-pair.sources.items c.loop-pair.invariant in
    let long : c.len-in-loop-pair.result ≡ length c.loop-pair.sources.items = search rules in
    subst (λ sources. AreReadBy g.R.Read.remaining crlf style 1 (c.loop-pair.yielded ++ c.in-Some.pair ∷ []) sources) (sym more)
    (read_more g.R.Read.remaining crlf style 1 (c.len-in-loop-pair.result + 1) c.loop-pair.yielded c.loop-pair.sources.items
    c.in-Some.pair one (omega (arith, count, long)) c.loop-pair.invariant c.new-source.ensures (search rules))
