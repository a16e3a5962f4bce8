-- An array of results, and one of their items, are filled together.
use Rattle.std.proofs.Common.{◌≡◌, Bool, true, false, ℕ, ◌+◌, List, [], ◌∷◌, ◌++◌, arith, ap, refl, sym, ◌∙◌}
use Rattle.std.proofs.lemmas.List.Sums.{sum_by-cons}
use Rattle.tfmset_c.specs.Arrays.{ArePut, held}
use Rattle.tfmset_c.proofs.ArrayLemmas.{nothing_put}
use Rattle.tfmset_c.specs.Filling.{AreFilled, AreUnderWay, count_in, wanted}
use Rattle.tfmset_c.specs.declared.lines.TfmsetCounts.{TfmsetCounts}
use Rattle.tfmset_c.specs.declared.lines.TfmsetLine.{TfmsetLine}

-- items are wanted before other items, too
wanted_both : {I : Type 0} (w : Bool) (xs ys : List I) → wanted w (xs ++ ys) ≡ wanted w xs ++ wanted w ys
wanted_both true xs ys = refl
wanted_both false xs ys = refl

pub none_wanted : (I : Type 0) (w : Bool) → wanted {I = I} w [] ≡ []
none_wanted I true = refl
none_wanted I false = refl

-- at first all are to come
pub at_first : {I : Type 0} (w : Bool) (rest : ℕ → List TfmsetLine) (items_of : List TfmsetLine → List I) (lines : List TfmsetLine) (items : List I)
    → AreUnderWay w (rest 0) (items_of (rest 0)) rest items_of (record { lines = 0; items = 0 }) 0 lines lines items items
at_first w rest items_of lines items = record {
  so_far = 0;
  held_items = refl;
  counted = omega arith;
  line = nothing_put (rest 0) lines;
  item = nothing_put (wanted w (items_of (rest 0))) items;
}

-- one result more, with its items
pub one_more : {I : Type 0} {w : Bool} {all : List TfmsetLine} {placed : List I} (rest more : ℕ → List TfmsetLine) (items_of items_more : List TfmsetLine → List I)
    {line : TfmsetLine} (own made : List I) {counts next : TfmsetCounts} {at at' : ℕ} {lines_before lines lines' : List TfmsetLine} {items_before items items' : List I}
    → ((n : ℕ) → counts.items ≡ held n → rest n ≡ line ∷ more (n + line.count)) → ((others : List TfmsetLine) → items_of (line ∷ others) ≡ own ++ items_more others)
    → made ≡ wanted w own → ArePut (line ∷ []) counts.lines next.lines lines lines' → next.items ≡ held (counts.items + line.count) → ArePut made at at' items items'
    → AreUnderWay w all placed rest items_of counts at lines_before lines items_before items
    → AreUnderWay w all placed more items_more next at' lines_before lines' items_before items'
one_more {I} {w} {all} {placed} rest more items_of items_more {line} own made {counts} {next} {at} {at'} {lines_before} {lines} {lines'} {items_before} {items} {items'}
    first items_first are put_line counted put_items way =
    let others : List TfmsetLine = more (way.so_far + line.count) in
    let told : rest way.so_far ≡ line ∷ others = first way.so_far way.held_items in
    let count : count_in (rest way.so_far) ≡ line.count + count_in others = ap count_in told ∙ sum_by-cons (λ (l : TfmsetLine). l.count) line others in
    let cut : wanted w (items_of (rest way.so_far)) ≡ made ++ wanted w (items_more others) =
    ap (λ ls. wanted w (items_of ls)) told ∙ ap (wanted w) (items_first others) ∙ wanted_both w own (items_more others)
    ∙ ap (λ (ys : List I). ys ++ wanted w (items_more others)) (sym are) in
    record {
      so_far = way.so_far + line.count;
      held_items = omega (arith, counted, way.held_items);
      counted = omega (arith, way.counted, count);
      line = put_line.further all others lines_before (rw told at way.line);
      item = put_items.further (wanted w placed) (wanted w (items_more others)) items_before (rw cut at way.item);
    }

-- at last all are there
pub all_there : {I : Type 0} {w : Bool} {all : List TfmsetLine} {placed : List I} {rest : ℕ → List TfmsetLine} {items_of : List TfmsetLine → List I}
    {counts : TfmsetCounts} {at : ℕ} {lines_before lines : List TfmsetLine} {items_before items : List I}
    → ((n : ℕ) → rest n ≡ []) → items_of [] ≡ [] → AreUnderWay w all placed rest items_of counts at lines_before lines items_before items
    → AreFilled w all placed counts at lines_before lines items_before items
all_there {I} {w} {items_of = items_of} none no_items way =
    let empty : wanted w (items_of []) ≡ [] = ap (wanted w) no_items ∙ none_wanted I w in
    let nothing = none way.so_far in
    record {
      counted = omega (arith, way.held_items, way.counted, ap count_in nothing);
      line = rw nothing at way.line;
      item = rw empty at (rw nothing at way.item);
    }
