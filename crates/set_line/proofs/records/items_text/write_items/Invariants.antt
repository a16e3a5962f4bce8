-- the items from `left` on are written, and there is room for those before
use Rattle.std.proofs.Common.{◌≡◌, ◌*◌, ◌≤◌, length, drop, flat_map}
use Rattle.set_line.specs.Record.{text_in}
use Rattle.set_line.proofs.records.items_text.write_items.Given as goal

abbrev pub invariant-loop-left : goal.invariant-loop-left
invariant-loop-left l = record {
  left : l.left ≤ length l.items;
  room : l.left * 22 ≤ l.at;
  within : l.at ≤ length l.text;
  written : drop l.at l.text ≡ flat_map (text_in l.version) (drop l.left l.items);
}

abbrev pub decreases-loop-left : goal.decreases-loop-left
decreases-loop-left l = l.left
