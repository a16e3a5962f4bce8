use Rattle.tfm_requests.specs.Requests.{style_of}
use Rattle.tfm_requests.proofs.SourceLemmas.{printed_before}
use Rattle.tfm_requests.proofs.batches.delivery.set_readers.Goals as goal

pub returns-clause-text : goal.returns-clause-text
returns-clause-text g c =
    printed_before g.T.Read.remaining c.args.output.now.layout.now.crlf c.args.output.now.delivery (style_of c.args.output.now)
    c.args.readers.items (g.O.Write.contents c.args.out.now) (g.O.Write.contents c.deliver.new.out) (g.O.Write.contents c.flush.new.out)
    c.in_ok-summary.summary _ c.in_ok-summary.ensures.text c.flush.ensures.kept c.done_of.ensures
