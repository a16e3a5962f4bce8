use Rattle.tfm_requests.specs.Known.{font_bytes_of}
use Rattle.tfm_requests.proofs.KnownLemmas.{with_known}
use Rattle.tfm_requests.proofs.texts.pairs.Goals as goal

pub returns-in-Ok-clause-text : goal.returns-in-Ok-clause-text
returns-in-Ok-clause-text g c = (
  c.in_ok-encoding.encoding,
  c.in_ok-encoding.ensures.encoding,
  with_known (font_bytes_of (g.F.Opens.known c.args.files.now) (g.I.Read.remaining c.args.input.now) c.args.asked.now.font.now) _ _
      (λ all is. (c.in_ok-font.font, is, c.in-Ok.ensures)) c.in_ok-font.ensures.font,
)
