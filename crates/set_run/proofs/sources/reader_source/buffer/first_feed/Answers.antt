use Rattle.set_run.proofs.FeedLemmas.{first_byte_position}
use Rattle.set_run.proofs.sources.reader_source.buffer.first_feed.Goals as goal

pub returns : goal.returns
returns c = first_byte_position 10 c.args.bytes.now c.memchr.result c.memchr.ensures
