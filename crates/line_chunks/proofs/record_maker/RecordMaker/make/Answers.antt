use Rattle.std.proofs.Common.{ap, sym, ◌∙◌}
use Rattle.line_chunks.specs.Chunks.{lines_of_chunk}
use Rattle.line_chunks.specs.ChunkText.{chunk_text, refused_in}
use Rattle.line_chunks.proofs.record_maker.RecordMaker.make.Goals as goal

pub new-requires-clause-refused : goal.new-requires-clause-refused
new-requires-clause-refused c =
    c.in-Ok.ensures.refused ∙ ap (λ maker. refused_in maker.terms maker.style.encoding (lines_of_chunk c.args.chunk)) (sym c.append_all.ensures.kept ∙ sym c.self-2.view_is)

pub returns-in-Ok-clause-made : goal.returns-in-Ok-clause-made
returns-in-Ok-clause-made c =
    c.new.ensures ∙ ap (λ maker. chunk_text maker c.args.chunk) (c.self-2.view_is ∙ c.append_all.ensures.kept ∙ c.self.view_is)
