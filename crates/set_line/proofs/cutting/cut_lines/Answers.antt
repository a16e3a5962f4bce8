use Rattle.std.proofs.Common.{arith, sym, ◌∙◌, ap, ◌++◌, append-nil}
use Rattle.set_line.proofs.LineLemmas.{one_line_more}
use Rattle.set_line.proofs.cutting.cut_lines.Goals as goal

pub loop-line-preserved : goal.loop-line-preserved
loop-line-preserved c =
    one_line_more c.loop-line.lines.items c.push.new.self.items c.in-Some.line.now c.new.result c.loop-line.rest.now c.in-Some.more.now c.args.bytes.now
    (grind arith) (grind arith) c.in-Some.ensures.cut c.loop-line.invariant

pub returns : goal.returns
returns c = sym (append-nil c.loop-line.lines.items) ∙ ap (λ xs. c.loop-line.lines.items ++ xs) (sym c.in_default.ensures.cut) ∙ c.loop-line.invariant
