use Rattle.std.proofs.Common.{rules, ◌<◌, length, refl}
use Rattle.std.specs.Prelude.{None}
use Rattle.lanes.specs.Ends.{IsAsFed, IsRefused, SameFeeder, block_of, fed, feeder_end, open_lines}
use Rattle.dealt_lanes.specs.Feeders.{IsReturned, each_fed}
use Rattle.std.specs.Prelude.{◌≡◌, set}
use Rattle.std.proofs.lemmas.Result.{IfErr-weaker, on_ok_weaker}
use Rattle.dealt_lanes.proofs.Endpoints.{returned}
use Rattle.dealt_lanes.proofs.SameEnds.{ends_at, ends_kept, feeder_refl}
use Rattle.dealt_lanes.proofs.Zips.{map_kept, zip_set}
use Rattle.dealt_lanes.proofs.feeding.offer_at.Goals as goal

pub returns-clause-lanes : goal.returns-clause-lanes
returns-clause-lanes g c =
    zip_set SameFeeder feeder_refl c.args.feeders.now.items c.args.lane c.index_mut.result.now c.offer.new.self c.index_mut.ensures.value
    c.offer.ensures.lane

pub returns-clause-ends : goal.returns-clause-ends
returns-clause-ends g c =
    ends_kept None c.args.feeders.now.items c.args.lane c.index_mut.result.now c.offer.new.self c.index_mut.ensures.value (search rules)
    c.offer.ensures.end c.requires.ends

pub returns-clause-fed : goal.returns-clause-fed
returns-clause-fed g c =
    on_ok_weaker c.offer.result (λ is. (c.index_mut.result.now, c.offer.new.self, c.index_mut.ensures.value, is.1, refl)) c.offer.ensures.fed

pub returns-clause-refused : goal.returns-clause-refused
returns-clause-refused g c =
    let feeders = c.args.feeders.now.items in
    let old = c.index_mut.result.now in let new = c.offer.new.self in
    let below : c.args.lane < length feeders = search rules in
    IfErr-weaker c.offer.result (λ fault. IsAsFed old new × IsRefused old c.args.item fault)
    (λ fault. IsReturned None c.args.item fault × (each_fed (set feeders c.args.lane new) ≡ each_fed feeders))
    (λ fault is. (
      returned (feeder_end old) (block_of old) (open_lines old) c.args.item fault (ends_at None feeders c.args.lane old c.index_mut.ensures.value below c.requires.ends) is.1,
      map_kept fed feeders c.args.lane old new c.index_mut.ensures.value is.0.0,
    )) c.offer.ensures.refused
