use Rattle.tfm_requests.proofs.CheckingLemmas.{one_added}
use Rattle.tfm_requests.proofs.checking.write_font.Goals as goal

pub returns-clause-text : goal.returns-clause-text
returns-clause-text g c = λ known kept.
    one_added c.args.fonts.now.layout known c.args.font.0.now c.in_ok-verdict.verdict (g.O.Write.contents c.args.out.now) (g.O.Write.contents c.write_shown.new.out)
    c.args.tally c.with.result (c.in_ok-verdict.ensures (known c.args.font.0.now) kept) c.in_ok-write_shown.ensures.text c.with.ensures
