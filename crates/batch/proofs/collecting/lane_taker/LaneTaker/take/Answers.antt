use Rattle.std.proofs.Common.{rules, ◌≡◌, None, Some, false, refl, subst, sym, ◌∙◌}
use Rattle.std.specs.Prelude.{is_ok}
use Rattle.batch.specs.Collecting.{TellsLane}
use Rattle.batch.specs.declared.collecting.lane_taker.LaneTaker.{LaneTaker}
use Rattle.batch.proofs.TakerLemmas.{none_yet, tells_answer, tells_end, tells_nothing, tells_refused_answer, tells_refused_end, tells_same}
use Rattle.batch.proofs.SameEnds.{lane_refl}
use Rattle.batch.proofs.collecting.lane_taker.LaneTaker.take.Goals as goal

pub returns-in_ok-take-in-Answer-clause-told : goal.returns-in_ok-take-in-Answer-clause-told
returns-in_ok-take-in-Answer-clause-told g c =
    let t : LaneTaker _ _ = c.args.self.now in let t' : LaneTaker _ _ = record { gatherer = c.take.new.self; end = t.end } in
    let unended : t.end ≡ None = none_yet t.end (sym c.is_some.ensures ∙ c.if-is_some.false) in let took = c.in-Answer.ensures.took in
    tells_answer g.C.Collector.given c.args.lane t t' c.args.collector.now c.take-in-Answer.new.self c.in-Answer.answer unended unended
    took.2 took.3 c.in_ok-take-in-Answer.ensures.given

pub returns-in_err-take-in-Answer-clause-told : goal.returns-in_err-take-in-Answer-clause-told
returns-in_err-take-in-Answer-clause-told g c =
    let t : LaneTaker _ _ = c.args.self.now in let t' : LaneTaker _ _ = record { gatherer = c.take.new.self; end = t.end } in
    let unended : t.end ≡ None = none_yet t.end (sym c.is_some.ensures ∙ c.if-is_some.false) in let took = c.in-Answer.ensures.took in
    let failed : false ≡ is_ok c.from_residual.result = search rules in
    subst (λ ok. TellsLane g.C.Collector.given c.args.lane t c.args.collector.now ok t' c.take-in-Answer.new.self) failed
    (tells_refused_answer g.C.Collector.given c.args.lane t t' c.args.collector.now c.take-in-Answer.new.self c.in-Answer.answer unended unended
    took.3 c.in_err-take-in-Answer.ensures.given)

pub returns-in_ok-end-in-End-clause-told : goal.returns-in_ok-end-in-End-clause-told
returns-in_ok-end-in-End-clause-told g c =
    let t : LaneTaker _ _ = c.args.self.now in let t' : LaneTaker _ _ = record { gatherer = c.take.new.self; end = Some c.in-End.end } in
    let unended : t.end ≡ None = none_yet t.end (sym c.is_some.ensures ∙ c.if-is_some.false) in let took = c.in-End.ensures.took in
    tells_end g.C.Collector.given c.args.lane t t' c.args.collector.now c.end.new.self c.in-End.end unended refl took.1 took.2
    c.in_ok-end-in-End.ensures.given

pub returns-in_err-end-in-End-clause-told : goal.returns-in_err-end-in-End-clause-told
returns-in_err-end-in-End-clause-told g c =
    let t : LaneTaker _ _ = c.args.self.now in let t' : LaneTaker _ _ = record { gatherer = c.take.new.self; end = t.end } in
    let unended : t.end ≡ None = none_yet t.end (sym c.is_some.ensures ∙ c.if-is_some.false) in let took = c.in-End.ensures.took in
    let failed : false ≡ is_ok c.from_residual-in_err-end-in-End.result = search rules in
    subst (λ ok. TellsLane g.C.Collector.given c.args.lane t c.args.collector.now ok t' c.end.new.self) failed
    (tells_refused_end g.C.Collector.given c.args.lane t t' c.args.collector.now c.end.new.self c.in-End.end unended unended took.2
    c.in_err-end-in-End.ensures.given)

pub returns-then-is_some-clause-same : goal.returns-then-is_some-clause-same
returns-then-is_some-clause-same g c = lane_refl c.args.self.now

pub returns-then-is_some-clause-told : goal.returns-then-is_some-clause-told
returns-then-is_some-clause-told g c = tells_same g.C.Collector.given c.args.lane c.args.self.now c.args.collector.now

pub returns-in-Nothing-clause-told : goal.returns-in-Nothing-clause-told
returns-in-Nothing-clause-told g c =
    let t : LaneTaker _ _ = c.args.self.now in let t' : LaneTaker _ _ = record { gatherer = c.take.new.self; end = t.end } in
    let took = c.in-Nothing.ensures.took in
    tells_nothing g.C.Collector.given c.args.lane t t' c.args.collector.now refl took.2 (took.1 ∙ sym took.0)
