-- The items of what a byte adds.
use Rattle.std.proofs.Common.{◌≡◌, ◌+◌, List, [], ◌∷◌, ◌++◌, ℤ, pos, ◌+ℤ◌, flat_map, arith, refl, ap, sym, ◌∙◌, append-nil, append_assoc, length-append}
use Rattle.std.specs.Prelude.{cond}
use Rattle.std.specs.List.{count_by}
use Rattle.std.proofs.Math.IntN.{+ℤ_assoc, +ℤ_idl}
use Rattle.std.proofs.lemmas.Grind.{flat_map-append}
use Rattle.std.proofs.lemmas.Int.{to_z-of_z}
use Rattle.std.proofs.lemmas.List.{drop_all}
use Rattle.std.proofs.lemmas.List.Sums.{sum_by-append}
use Rattle.tfm_tables.specs.Font.{FontValue}
use Rattle.lig_kern.specs.declared.symbol.Symbol.{Symbol}
use Rattle.lig_kern.specs.declared.symbol.Symbol.TheVariants.{Left, Char, Right}
use Rattle.lig_kern.specs.declared.item.Item.{Item}
use Rattle.lig_kern.specs.declared.item.Item.TheVariants.{Kern}
use Rattle.lig_kern.specs.Rewriting.{items_of, of_kern, of_symbol}
use Rattle.set_line.specs.Width.{amount_of, total_width}
use Rattle.line_records.specs.Boxes.{is_skipped}
use Rattle.line_records.specs.Cells.{total_tally}

-- the items of a symbol and a kern
pub with_kern : (font : FontValue) (symbol : Symbol) (amount : ℤ)
    → items_of font (of_symbol symbol ∷ []) ++ Kern amount ∷ [] ≡ items_of font (of_symbol symbol ∷ of_kern amount ∷ [])
unfolding items_of
with_kern font Left amount = refl
with_kern font (Char code) amount = refl
with_kern font Right amount = refl

pub ruleset items = (append-nil, with_kern)

-- the width of items in two parts
pub total_width-append : (xs ys : List Item) → total_width (xs ++ ys) ≡ total_width xs +ℤ total_width ys
total_width-append [] ys = sym (+ℤ_idl (total_width ys))
total_width-append (x ∷ xs) ys = ap (λ w. amount_of x +ℤ w) (total_width-append xs ys) ∙ sym (+ℤ_assoc (amount_of x) (total_width xs) (total_width ys))

-- the skipped items in two parts, and the tally of both
pub skipped-append : (xs ys : List Item) → count_by is_skipped (xs ++ ys) ≡ count_by is_skipped xs + count_by is_skipped ys
skipped-append xs ys = sum_by-append (λ item. cond (is_skipped item) 1 0) xs ys

pub total_tally-append : (xs ys : List Item) → total_tally (xs ++ ys) ≡ total_tally xs + total_tally ys
total_tally-append xs ys = omega (arith, length-append xs ys, skipped-append xs ys)

pub ruleset texts = (flat_map-append, append_assoc, append-nil, drop_all)

pub ruleset widths = (total_width-append, to_z-of_z)

pub ruleset tallies = (skipped-append, length-append)
