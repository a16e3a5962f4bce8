use Rattle.std.proofs.Common.{arith, ap}
use Rattle.run_texts.specs.RunText.{style_of}
use Rattle.run_texts.specs.StreamState.{IsStreamOf}
use Rattle.run_texts.proofs.ChunkRunLemmas.{as_many_read, collected_lines}
use Rattle.run_texts.proofs.SettingLemmas.{err_then, ok_then}
use Rattle.run_texts.proofs.streaming.run_over.Goals as goal

pub run_items-begun-requires-clause-lanes : goal.run_items-begun-requires-clause-lanes
run_items-begun-requires-clause-lanes g c =
    let count = as_many_read g.T.Read.remaining c.args.options.now.crlf (style_of c.args.options.now) 1 c.args.readers.items c.in-Ok.sources.items c.in-Ok.ensures in
    omega (arith, count, c.in-Ok.sources.ok.0, c.args.readers.ok.0, c.requires)

pub returns-in-Ok-clause-collected : goal.returns-in-Ok-clause-collected
returns-in-Ok-clause-collected g c =
    ok_then c.run_items-begun.result.1 _ _
    (λ run collected. collected_lines g.T.Read.remaining c.args.options.now.crlf (style_of c.args.options.now) (IsStreamOf g.W.Write.contents g.K.StreamBeginning.start)
    c.args.stream c.run_items-begun.result.0.stream c.args.readers.items c.in-Ok.sources.items run c.in-Ok.ensures collected)
    c.run_items-begun.ensures.collected

pub returns-in-Ok-clause-fault : goal.returns-in-Ok-clause-fault
returns-in-Ok-clause-fault g c =
    err_then c.run_items-begun.result.1 _ _ (λ fault same. ap (λ begun. begun.stream) same) c.run_items-begun.ensures.fault

pub returns-in-Ok-clause-few : goal.returns-in-Ok-clause-few
returns-in-Ok-clause-few g c = λ few.
    let count = as_many_read g.T.Read.remaining c.args.options.now.crlf (style_of c.args.options.now) 1 c.args.readers.items c.in-Ok.sources.items c.in-Ok.ensures in
    c.run_items-begun.ensures.few (omega (arith, few, count, c.in-Ok.sources.ok.0, c.args.readers.ok.0))
