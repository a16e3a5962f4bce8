-- how the stream begins
use Rattle.std.proofs.Common.{length}
use Rattle.run_texts.specs.RunText.{style_of}
use Rattle.run_texts.proofs.streaming.stream_readers.Given as goal

abbrev pub ghosts-run_over : goal.ghosts-run_over
ghosts-run_over g a = record {
  start = record {
    before = g.W.Write.contents a.stream.out.now;
    name = a.stream.out.ghost_name;
    style = style_of a.options.now;
    lanes = length a.stream.counts.items;
  };
}
