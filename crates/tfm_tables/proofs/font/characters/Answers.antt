use Rattle.std.proofs.Common.{◌≡◌, ◌∙◌, ap, arith, map}
use Rattle.std.specs.List.{range_with_len}
use Rattle.tfm_tables.specs.Character.{metrics_of}
use Rattle.tfm_tables.specs.Decoded.{characters_of}
use Rattle.tfm_tables.proofs.DecodedLemmas.{more_of_map}
use Rattle.tfm_tables.proofs.font.characters.Goals as goal

pub loop-code-preserved : goal.loop-code-preserved
loop-code-preserved c =
    let words = c.args.metrics.now.words in
    c.in_ok-push.ensures.items ∙ more_of_map (metrics_of words c.args.metrics.now.size) c.loop-code.characters.items c.loop-code.code c.metrics.result c.loop-code.invariant c.metrics.ensures.value

pub returns : goal.returns
unfolding characters_of
returns c =
    let all : c.loop-code.code ≡ 256 = omega arith in
    c.loop-code.invariant ∙ ap (λ n. map (metrics_of c.args.metrics.now.words c.args.metrics.now.size) (range_with_len 0 n)) all
