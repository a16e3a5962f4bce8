use Rattle.std.proofs.Common.{arith, List, [], length, ap, subst, sym}
use Rattle.std.specs.Prelude.{map}
use Rattle.std.proofs.lemmas.List.{length-replicate}
use Rattle.set_line.specs.Answer.{AnswerValue}
use Rattle.batch.specs.Closed.{AreBack}
use Rattle.set_run.specs.Reports.{AreReported}
use Rattle.set_run.proofs.FinishedLemmas.{answered, by_ok, closed_length, none_kept, reported_kept, same_sources}
use Rattle.set_run.proofs.running.run.Goals as goal

pub reports_of-requires-clause-lists : goal.reports_of-requires-clause-lists
reports_of-requires-clause-lists g c =
    let here = by_ok _ c.run_items-lists.result.1 c.in_ok-ended.ended c.in_ok-ended.was c.run_items-lists.ensures.collected
    (none_kept c.len-2.result c.in_ok-lists.lists.lists.items c.in_ok-lists.ensures) in
    let lanes = closed_length g.S.LineSource.to_come g.S.LineSource.failed here.0 0 c.in_ok-made.made.items c.in_ok-ended.ended.lanes.items here.2 in
    omega (arith, lanes, ap length c.in_ok-made.ensures, c.run_items-lists.ensures.lanes, ap length c.in_ok-lists.ensures, length-replicate {A = List AnswerValue} c.len-2.result [])

pub returns-clause-lanes : goal.returns-clause-lanes
returns-clause-lanes g c =
    let here = by_ok _ c.run_items-lists.result.1 c.in_ok-ended.ended c.in_ok-ended.was c.run_items-lists.ensures.collected
    (none_kept c.len-2.result c.in_ok-lists.lists.lists.items c.in_ok-lists.ensures) in
    subst (λ reports. AreReported g.S.LineSource.to_come g.S.LineSource.failed c.args.sources.items reports) (sym c.new-2.ensures)
    (subst (λ sources. AreReported g.S.LineSource.to_come g.S.LineSource.failed sources c.in_ok-reports.reports.items) c.in_ok-made.ensures
    (reported_kept g.S.LineSource.to_come g.S.LineSource.failed c.in_ok-made.made.items c.in_ok-ended.ended.lanes.items
    c.run_items-lists.result.0.lists.items c.in_ok-reports.reports.items here c.in_ok-reports.ensures))

pub returns-clause-sources : goal.returns-clause-sources
returns-clause-sources g c =
    let made = by_ok _ c.run_items-lists.result.1 c.in_ok-ended.ended c.in_ok-ended.was c.run_items-lists.ensures.sources in
    let own = subst (λ sources. AreBack g.S.LineSource.origin sources (map (λ lane. lane.source) c.in_ok-ended.ended.lanes.items)) c.in_ok-made.ensures made in
    let same = same_sources c.in_ok-ended.ended.lanes.items c.run_items-lists.result.0.lists.items c.in_ok-reports.reports.items
    c.in_ok-reports.ensures
    in subst (λ reports. AreBack g.S.LineSource.origin c.args.sources.items (map (λ report. report.source) reports)) (sym c.new-2.ensures)
    (subst (λ xs. AreBack g.S.LineSource.origin c.args.sources.items xs) (sym same) own)

pub returns-clause-finished : goal.returns-clause-finished
returns-clause-finished g c =
    answered g.S.LineSource.to_come g.S.LineSource.failed c.args.sources.items c.new-2.result
    (returns-clause-lanes g c)
