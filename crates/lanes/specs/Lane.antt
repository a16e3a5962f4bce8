-- The results of a lane, and its end.
-- This project's own.
use Rattle.std.specs.Prelude.{◌≡◌, List, length, map, take}
use Rattle.lanes.specs.declared.ending.SourceEnd.{SourceEnd}
use Rattle.lanes.specs.declared.ending.SourceEnd.TheVariants.{Complete as SourceComplete, Failed}
use Rattle.lanes.specs.declared.ending.LaneEnd.{LaneEnd}
use Rattle.lanes.specs.declared.ending.LaneEnd.TheVariants.{Complete, SourceFailed}

module _ {I O : Type 0} where
  -- the results taken are those that are made of the first items that were fed
  abbrev pub pipeline : (I → O) → List I → List O → Type 0
  pipeline makes fed taken = taken ≡ map makes (take (length taken) fed)

-- the end of a lane that isn't abandoned, from the end of its source
abbrev pub lane_end_of : SourceEnd → LaneEnd
lane_end_of SourceComplete = Complete
lane_end_of (Failed fault) = SourceFailed fault
