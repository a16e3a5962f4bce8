-- An array of results, and one of their items, which a call fills.
-- This project's own.
use Rattle.std.specs.Prelude.{◌≡◌, ℕ, ◌+◌, Bool, List, [], length, if◌then◌else◌}
use Rattle.std.specs.List.{sum_by}
use Rattle.tfmset_c.specs.Arrays.{HasEffect, HasRoom, IsFilled, IsOverlaid, IsPartly, held}
use Rattle.tfmset_c.specs.declared.lines.TfmsetCounts.{TfmsetCounts}
use Rattle.tfmset_c.specs.declared.lines.TfmsetLine.{TfmsetLine}

-- the items, if they are wanted
abbrev pub wanted : {I : Type 0} → Bool → List I → List I
wanted with_items items = if with_items then items else []

-- the number of items of these results together
abbrev pub count_in : List TfmsetLine → ℕ
count_in lines = sum_by (λ line. line.count) lines

-- the numbers of results and of their items
abbrev pub counts_told : {I : Type 0} → Bool → List TfmsetLine → List I → TfmsetCounts
counts_told with_items told placed =
    record { lines = held (length told); items = held (if with_items then length placed else count_in told) }

-- the effect of a call that fills both arrays: they have the results, and the items if these are wanted, and the counts
-- are their numbers
abbrev pub AreTold : {I : Type 0} → Bool → List TfmsetLine → List I → ℕ → TfmsetCounts → TfmsetCounts
    → List TfmsetLine → List TfmsetLine → List I → List I → Type 0
AreTold with_items told placed answer counts_before counts lines_before lines items_before items =
    HasEffect
    (HasRoom (length told) (length lines_before) × HasRoom (length (wanted with_items placed)) (length items_before))
    (IsOverlaid told lines_before lines × IsOverlaid (wanted with_items placed) items_before items)
    ((lines ≡ lines_before) × (items ≡ items_before)) (counts_told with_items told placed) answer counts_before counts

-- ---- partly filled arrays: this project's own representation, which no definition above uses

-- the arrays have the first results, which are counted, and their items, and others are still to be written: these
-- results, if so many items precede theirs, and these items, if those are the results
pub record AreUnderWay {I : Type 0} (with_items : Bool) (all : List TfmsetLine) (placed : List I)
    (rest : ℕ → List TfmsetLine) (items_of : List TfmsetLine → List I)
    (counts : TfmsetCounts) (at : ℕ) (lines_before lines : List TfmsetLine) (items_before items : List I) : Type 0 where
  pub so_far : ℕ
  pub held_items : counts.items ≡ held so_far
  pub counted : so_far + count_in (rest so_far) ≡ count_in all
  pub line : IsPartly all (rest so_far) counts.lines lines_before lines
  pub item : IsPartly (wanted with_items placed) (wanted with_items (items_of (rest so_far))) at items_before items

-- all of them are written, if they have room
pub record AreFilled {I : Type 0} (with_items : Bool) (told : List TfmsetLine) (placed : List I)
    (counts : TfmsetCounts) (at : ℕ) (lines_before lines : List TfmsetLine) (items_before items : List I) : Type 0 where
  pub counted : counts.items ≡ held (count_in told)
  pub line : IsFilled told counts.lines lines_before lines
  pub item : IsFilled (wanted with_items placed) at items_before items
