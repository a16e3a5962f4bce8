use Rattle.std.proofs.Common.{rules, ◌≡◌, [], ◌∷◌, ◌++◌, refl, subst, sym}
use Rattle.set_run.specs.Reports.{AreReportsOf}
use Rattle.set_run.specs.declared.report.LaneReport.{LaneReport}
use Rattle.set_run.proofs.FinishedLemmas.{reports_more}
use Rattle.set_run.proofs.running.+reports_of.Goals as goal

pub returns : goal.returns
returns g t c =
    let was : c.args.lanes.items ≡ c.pop.new.self.items ++ c.in-Some.lane ∷ [] = c.in-Some.ensures.items in
    let had : c.args.lists.items ≡ c.pop-2.new.self.items ++ c.in-Some-pop.answers ∷ [] = c.in-Some-pop.ensures.items in
    let report : LaneReport _ = record { source = c.into_source-source.result; answers = c.in-Some-pop.answers; end = c.in-Some-end.end } in
    let now : c.push.new.self.items ≡ c.in_ok-reports.reports.items ++ report ∷ [] = search rules in
    subst (λ lanes. AreReportsOf lanes c.args.lists.items c.push.new.self.items) (sym was)
    (subst (λ lists. AreReportsOf (c.pop.new.self.items ++ c.in-Some.lane ∷ []) lists c.push.new.self.items) (sym had)
    (subst (λ reports. AreReportsOf (c.pop.new.self.items ++ c.in-Some.lane ∷ []) (c.pop-2.new.self.items ++ c.in-Some-pop.answers ∷ []) reports)
    (sym now)
    (reports_more c.pop.new.self.items c.pop-2.new.self.items c.in_ok-reports.reports.items c.in-Some.lane c.in-Some-pop.answers report
    c.in_ok-reports.ensures c.into_source-source.ensures refl c.in-Some-end.is)))
