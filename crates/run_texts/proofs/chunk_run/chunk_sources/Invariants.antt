-- the readers so far, as sources with their makers
use Rattle.run_texts.specs.ChunkLanes.{AreReadBy}
use Rattle.run_texts.specs.RunText.{style_of}
use Rattle.run_texts.proofs.chunk_run.chunk_sources.Given as goal

abbrev pub invariant-loop-pair : goal.invariant-loop-pair
invariant-loop-pair g l = AreReadBy g.R.Read.remaining l.options.crlf (style_of l.options) 1 l.yielded l.sources.items
