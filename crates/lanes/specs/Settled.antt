-- A lane whose endpoints were brought together again.
-- This project's own.
use Rattle.std.specs.Prelude.{◌≡◌, ◌&&◌, Bool, true, false, Some, is_some, map}
use Rattle.std.specs.Option.{option_map}
use Rattle.lanes.specs.Lane.{lane_end_of}
use Rattle.lanes.specs.Turns.{is_done, is_given_up}
use Rattle.lanes.specs.Rings.{IsFirstOf, items_sent, items_received, end_sent}
use Rattle.lanes.specs.Ends.{IsAsFed, SameFeeder, SameSetter, SameTaker, fed, feeder_end, state_of, hands_of, taken, taker_end}
use Rattle.lanes.specs.declared.feeder.Feeder.{Feeder}
use Rattle.lanes.specs.declared.setter.Setter.{Setter}
use Rattle.lanes.specs.declared.taker.Taker.{Taker}
use Rattle.lanes.specs.declared.ending.LaneEnd.{LaneEnd}
use Rattle.lanes.specs.declared.ending.LaneEnd.TheVariants.{GaveUp}
use Rattle.lanes.specs.declared.making.Making.{Ghosts}

module _ {M I O IS OS : Type 0} {ghosts : Ghosts M I O IS OS} where
  -- whether a lane is finished: its feeder is closed, its setter is done, and its taker has returned the end
  abbrev pub is_over : Feeder I IS → Setter M I O IS OS ghosts → Taker O OS → Bool
  is_over f s t = is_some (feeder_end f) && (is_done (state_of s) && (hands_of t).ended)

  -- a lane is finished with this end, which was taken. If the lane was abandoned, this end is `GaveUp`;
  -- otherwise it is the end that a lane has for the end of its source, and the results taken are those made of
  -- all items that were fed
  abbrev pub IsSettled : Feeder I IS → Setter M I O IS OS ghosts → Taker O OS → LaneEnd → Type 0
  IsSettled f s t end =
      (is_over f s t ≡ true)
      × (taker_end t ≡ Some end)
      × (is_given_up (state_of s).made ≡ true → end ≡ GaveUp)
      × (is_given_up (state_of s).made ≡ false → option_map lane_end_of (feeder_end f) ≡ Some end)
      × (is_given_up (state_of s).made ≡ false → taken t ≡ map (state_of s).makes (fed f))

  -- the same endpoints, with nothing fed, set, sent or taken since
  pub record AreAsBefore (f : Feeder I IS) (s : Setter M I O IS OS ghosts) (t : Taker O OS) (g : Feeder I IS) (u : Setter M I O IS OS ghosts) (v : Taker O OS) : Type 0 where
    pub feeder : SameFeeder f g
    pub lines : IsAsFed f g
    pub setter : SameSetter s u
    pub state : state_of u ≡ state_of s
    pub taker : SameTaker t v
    pub hands : hands_of v ≡ hands_of t

  -- endpoints that were brought together: on each ring the items received are the first of those sent, and all
  -- of them once an end was received, which is the end sent
  pub record HaveMet (f : Feeder I IS) (s : Setter M I O IS OS ghosts) (t : Taker O OS) : Type 0 where
    pub first_lines : IsFirstOf (state_of s).seen (items_sent f.sender)
    pub all_lines : is_some (state_of s).source ≡ true → (state_of s).seen ≡ items_sent f.sender
    pub source : is_some (state_of s).source ≡ true → (state_of s).source ≡ feeder_end f
    pub first_answers : IsFirstOf (items_received t.receiver) (state_of s).given
    pub all_answers : is_some (hands_of t).ending ≡ true → items_received t.receiver ≡ (state_of s).given
    pub ending : is_some (hands_of t).ending ≡ true → (hands_of t).ending ≡ end_sent s.sender
