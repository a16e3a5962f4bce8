use Rattle.std.proofs.lemmas.Result.{IfOk-weaker}
use Rattle.spans.proofs.OutcomeLemmas.{are_items}
use Rattle.spans.proofs.setting.place_span.Goals as goal

pub returns-clause-placed : goal.returns-clause-placed
returns-clause-placed g c = λ value is.
    IfOk-weaker c.set_span.result _ _ (are_items value c.args.text.now c.args.span.now c.args.limit c.args.out.now.items c.set_span.new.out.items) (c.set_span.ensures.placed value is)
