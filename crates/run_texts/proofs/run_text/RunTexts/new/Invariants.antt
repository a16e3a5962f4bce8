-- this many lanes, of which nothing came yet
use Rattle.std.proofs.Common.{◌≡◌, [], length}
use Rattle.run_texts.specs.LaneText.{AreKept}
use Rattle.run_texts.proofs.run_text.RunTexts.new.Given as goal

abbrev pub invariant-loop : goal.invariant-loop
invariant-loop g l = record {
  count : length l.lanes.items ≡ l.counter;
  kept : AreKept l.version [] 0 l.lanes.items;
}
