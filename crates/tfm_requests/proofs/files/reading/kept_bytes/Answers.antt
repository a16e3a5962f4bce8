use Rattle.std.specs.Prelude.{is_ok}
use Rattle.std.proofs.Common.{rules, true, ◌≡◌, ◌++◌, [], take}
use Rattle.std.specs.Io.KnownBytes.{Consumes, IsAtEnd}
use Rattle.tfm_requests.specs.Kept.{kept_of}
use Rattle.tfm_requests.proofs.KeptLemmas.{at_ok, consumed_more, kept_at_end}
use Rattle.tfm_requests.proofs.files.reading.kept_bytes.Goals as goal

pub returns-in-None : goal.returns-in-None
returns-in-None g c =
    let none : Consumes (g.I.Read.remaining c.loop.input) (g.I.Read.remaining c.read_once.new.input) [] = search rules in
    let end : IsAtEnd (g.I.Read.remaining c.read_once.new.input) = search rules in
    kept_at_end (g.I.Read.remaining c.args.input.now) (g.I.Read.remaining c.loop.input) (g.I.Read.remaining c.read_once.new.input)
    c.loop.invariant.0 c.loop.bytes.items c.loop.invariant.1 none end c.loop.invariant.2

pub loop-preserved : goal.loop-preserved
loop-preserved g c =
    let more : Consumes (g.I.Read.remaining c.loop.input) (g.I.Read.remaining c.read_once.new.input) (take c.in-Some.count c.read_once.new.buffer) = search rules in
    let ok : is_ok c.keep.result ≡ true = search rules in
    let kept = at_ok c.keep.result _ ok c.keep.ensures in
    let same : c.keep.new.bytes.items ≡ kept_of (c.loop.invariant.0 ++ take c.in-Some.count c.read_once.new.buffer) = kept c.loop.invariant.0 c.loop.invariant.2 in
    (c.loop.invariant.0 ++ take c.in-Some.count c.read_once.new.buffer, consumed_more (g.I.Read.remaining c.args.input.now) (g.I.Read.remaining c.loop.input) (g.I.Read.remaining c.read_once.new.input) c.loop.invariant.0 (take c.in-Some.count c.read_once.new.buffer) c.loop.invariant.1 more, same)
