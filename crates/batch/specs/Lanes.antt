-- The lanes of a source when they are opened and when they are closed.
-- This project's own.
use Rattle.std.specs.Prelude.{◌≡◌, ◌*◌, ℕ, List, [], ◌∷◌, ◌++◌, length, None}
use Rattle.lanes.specs.declared.making.Making.{Ghosts}
use Rattle.lanes.specs.declared.setter.Setter.{Setter}
use Rattle.dealt_lanes.specs.Dealt.{dealer_end, dealt}
use Rattle.dealt_lanes.specs.Settled.{AllMake, AreDealtLanes, AreSettled}
use Rattle.dealt_lanes.specs.declared.dealer.Dealer.{Dealer}
use Rattle.batch.specs.Workers.{HaveMore}
use Rattle.batch.specs.Collecting.{IsFreshTaker}
use Rattle.batch.specs.declared.threads.source_thread.Feeding.{Feeding}
use Rattle.batch.specs.declared.collecting.lane_taker.LaneTaker.{LaneTaker}
use Rattle.batch.specs.declared.run_end.ClosedLane.{ClosedLane}

-- the setters, worker by worker, and the gatherers of the sources whose lanes are open
pub record Held (T O OS : Type 0) : Type 0 where
  pub workers : List (List T)
  pub lanes : List (LaneTaker O OS)

module _ {M I O IS OS : Type 0} {ghosts : Ghosts M I O IS OS} where
  -- the endpoints of the lanes of one source with makers that make this: nothing was dealt or gathered, and the
  -- dealer isn't closed
  abbrev pub IsFresh : (I → O) → Dealer I IS → List (Setter M I O IS OS ghosts) → LaneTaker O OS → Type 0
  IsFresh makes dealer setters lane =
      AreDealtLanes dealer setters lane.gatherer
      × (dealt dealer ≡ [])
      × (dealer_end dealer ≡ None)
      × AllMake makes setters
      × IsFreshTaker lane

module _ {S M I O IS OS : Type 0} {ghosts : Ghosts M I O IS OS} where
  -- the lanes of a source were closed: its source is the one that the thread returned, and its end is the one that
  -- the collector received. If all setters make the same, the results gathered agree with the items dealt
  abbrev pub IsFinished : Feeding S I IS → List (Setter M I O IS OS ghosts) → LaneTaker O OS → ClosedLane S → Type 0
  IsFinished feeding setters lane closed =
      (closed.source ≡ feeding.source)
      × (closed.end ≡ lane.end)
      × ((makes : I → O) → AllMake makes setters → AreSettled makes feeding.dealer lane.gatherer)

  -- the lanes of a source are opened: the setters of its lanes, of which there are so many, are those that the
  -- workers have more, its gatherer precedes the others, and its dealer is next to the source
  abbrev pub Begins : ℕ → ℕ → S × M → Feeding S I IS → Held (Setter M I O IS OS ghosts) O OS → Held (Setter M I O IS OS ghosts) O OS → Type 0
  Begins count number source feeding before after =
      (feeding.source ≡ source.0)
      × ((setters : List (Setter M I O IS OS ghosts)) × (lane : LaneTaker O OS) × (length setters ≡ count)
      × IsFresh (ghosts.makes source.1) feeding.dealer setters lane
      × HaveMore (number * count) setters before.workers after.workers × (after.lanes ≡ lane ∷ before.lanes))

module _ {M I O IS OS : Type 0} {ghosts : Ghosts M I O IS OS} where
  -- the lanes of a source can be closed: the workers have so many setters that, with the dealer and the first
  -- gatherer, are the endpoints of the lanes of one source
  abbrev pub CanEnd : ℕ → ℕ → Dealer I IS → Held (Setter M I O IS OS ghosts) O OS → Type 0
  CanEnd count number dealer held =
      (setters : List (Setter M I O IS OS ghosts)) × (workers : List (List (Setter M I O IS OS ghosts))) × (lane : LaneTaker O OS)
      × (lanes : List (LaneTaker O OS)) × (length setters ≡ count) × HaveMore (number * count) setters workers held.workers
      × (held.lanes ≡ lane ∷ lanes) × AreDealtLanes dealer setters lane.gatherer

module _ {S M I O IS OS : Type 0} {ghosts : Ghosts M I O IS OS} where
  -- the lanes of a source were closed: their setters and the first gatherer are removed, and one closed lane is
  -- appended
  abbrev pub Ends : ℕ → ℕ → Feeding S I IS → List (ClosedLane S) → List (ClosedLane S) → Held (Setter M I O IS OS ghosts) O OS → Held (Setter M I O IS OS ghosts) O OS → Type 0
  Ends count number feeding closed closed' before after =
      (setters : List (Setter M I O IS OS ghosts)) × (lane : LaneTaker O OS) × (one : ClosedLane S)
      × (length setters ≡ count) × HaveMore (number * count) setters after.workers before.workers
      × (before.lanes ≡ lane ∷ after.lanes) × (closed' ≡ closed ++ one ∷ []) × IsFinished feeding setters lane one
