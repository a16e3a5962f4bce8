use Rattle.std.proofs.Common.{sym, ◌∙◌}
use Rattle.tfm_requests.proofs.KnownLemmas.{font_of_file, font_of_input}
use Rattle.tfm_requests.proofs.files.reading.font_bytes.Goals as goal

pub returns-then-eq-clause-bytes : goal.returns-then-eq-clause-bytes
returns-then-eq-clause-bytes g c = font_of_input (g.F.Opens.known c.args.files.now) (g.I.Read.remaining c.args.input.now) c.args.font.now (λ bytes. bytes.items)
    c.kept_bytes.result (sym c.eq.ensures ∙ c.if-eq.true) c.kept_bytes.ensures

pub returns-clause-bytes : goal.returns-clause-bytes
returns-clause-bytes g c = font_of_file (g.F.Opens.known c.args.files.now) (g.I.Read.remaining c.args.input.now) c.args.font.now (λ bytes. bytes.items)
    c.file_bytes.result (sym c.eq.ensures ∙ c.if-eq.false) c.file_bytes.ensures
