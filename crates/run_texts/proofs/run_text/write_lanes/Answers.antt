use Rattle.std.proofs.Common.{rules}
use Rattle.run_texts.specs.LaneText.{LaneTextValue}
use Rattle.run_texts.proofs.RunTextLemmas.{appends_lane, appends_nothing}
use Rattle.run_texts.proofs.run_text.write_lanes.Goals as goal

pub loop-lane-init : goal.loop-lane-init
loop-lane-init g c = appends_nothing _

pub loop-lane-preserved : goal.loop-lane-preserved
loop-lane-preserved g c =
    appends_lane (λ (lane : LaneTextValue). lane.text) (g.W.Write.contents c.args.out.now) (g.W.Write.contents c.loop-lane.out)
    (g.W.Write.contents c.write.new.out) c.loop-lane.yielded c.in-Some.lane c.loop-lane.invariant (search rules)
