use Rattle.tfm_requests.specs.Requests.{style_of}
use Rattle.tfm_requests.proofs.SourceLemmas.{kept_delivered, stops}
use Rattle.tfm_requests.proofs.batches.delivery.deliver.Goals as goal

pub returns-in-AtTheEnd-clause-text : goal.returns-in-AtTheEnd-clause-text
returns-in-AtTheEnd-clause-text g c =
    kept_delivered g.T.Read.remaining c.args.output.now.layout.now.crlf c.args.output.now.delivery (style_of c.args.output.now) c.args.readers.items
    (g.O.Write.contents c.args.out.now) (g.O.Write.contents c.set_readers.new.out) c.set_readers.result c.in-AtTheEnd.is c.set_readers.ensures.text

pub returns-in-AsTheyCome-clause-text : goal.returns-in-AsTheyCome-clause-text
returns-in-AsTheyCome-clause-text g c = rw c.in-AsTheyCome.is c.stream_readers.ensures.text

pub returns-in-AtTheEnd-clause-status : goal.returns-in-AtTheEnd-clause-status
returns-in-AtTheEnd-clause-status g c = stops c.set_readers.result c.set_readers.ensures.font (c.set_readers.ensures.few c.requires)

pub returns-in-AsTheyCome-clause-status : goal.returns-in-AsTheyCome-clause-status
returns-in-AsTheyCome-clause-status g c = stops c.stream_readers.result c.stream_readers.ensures.font (c.stream_readers.ensures.few c.requires)
