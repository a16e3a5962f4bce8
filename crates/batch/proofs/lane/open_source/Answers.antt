use Rattle.std.proofs.Common.{◌≡◌, refl, ap}
use Rattle.std.proofs.lemmas.List.Elements.{All-weaker}
use Rattle.lanes.specs.Turns.{fresh}
use Rattle.lanes.specs.Ends.{state_of}
use Rattle.batch.proofs.lane.open_source.Goals as goal

pub returns-clause-fresh : goal.returns-clause-fresh
returns-clause-fresh g c =
    let e = c.in_ok-dealer.ensures in
    let makes = g.M.Making.makes c.args.maker in (
      e.lanes,
      e.dealer.0,
      e.dealer.1,
      All-weaker (λ s. state_of s ≡ fresh makes) (λ s. (state_of s).makes ≡ makes) (λ s is. ap (λ x. x.makes) is) c.in_ok-dealer.setters.items e.makers,
      (e.gatherer.0, e.gatherer.1, refl),
    )
