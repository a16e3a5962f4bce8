use Rattle.std.proofs.Common.{◌∙◌, arith}
use Rattle.tfm_tables.proofs.DecodedLemmas.{more_of_map, starts_all}
use Rattle.tfm_tables.specs.declared.left_side.LeftSide.TheVariants.{Char}
use Rattle.tfm_tables.specs.Program.{start_of}
use Rattle.tfm_tables.proofs.font.starts.Goals as goal

pub loop-code-preserved : goal.loop-code-preserved
loop-code-preserved c =
    c.in_ok-push.ensures.items ∙ more_of_map (λ at. start_of c.args.metrics.now.words (Char at)) c.loop-code.starts.items c.loop-code.code c.start.result c.loop-code.invariant c.start.ensures.value

pub returns : goal.returns
returns c =
    c.in_ok-push-2.ensures.items ∙ starts_all c.args.metrics.now.words c.loop-code.starts.items c.loop-code.code c.start-2.result c.loop-code.invariant (omega arith) c.start-2.ensures.value
