-- The width of items, one after the other.
use Rattle.std.proofs.Common.{◌≡◌, ℕ, ◌+◌, ◌*◌, ◌<◌, ℤ, pos, ◌+ℤ◌, ◌≤ℤ◌, List, [], ◌∷◌, ◌++◌, length, map, take, get_or, arith, ap, sym, ◌∙◌}
use Rattle.std.proofs.Math.IntN.{+ℤ_assoc, +ℤ_comm}
use Rattle.std.proofs.lemmas.Int.{to_z-of_z}
use Rattle.std.proofs.lemmas.List.{map-append, take_more}
use Rattle.lig_kern.specs.declared.item.Item.{Item}
use Rattle.set_line.specs.Width.{amount_of, total_width}

total_width-more : (xs : List Item) (x : Item) → total_width (xs ++ x ∷ []) ≡ total_width xs +ℤ amount_of x
total_width-more [] x = +ℤ_comm (amount_of x) (pos 0)
total_width-more (y ∷ ys) x = ap (λ w. amount_of y +ℤ w) (total_width-more ys x) ∙ sym (+ℤ_assoc (amount_of y) (total_width ys) (amount_of x))

pub next_width : {O : Type 0} (alone : O → Item) (items : List O) (i : ℕ) (d : O) (item : Item) (width : ℤ) → item ≡ alone (get_or items i d) → i < length items
    → width ≡ total_width (map alone (take i items)) → width +ℤ amount_of item ≡ total_width (map alone (take (i + 1) items))
next_width alone items i d item width is within sum =
    ap (λ w. w +ℤ amount_of item) sum
    ∙ sym (total_width-more (map alone (take i items)) item)
    ∙ ap (λ x. total_width (map alone (take i items) ++ x ∷ [])) is
    ∙ ap total_width (sym (map-append alone (take i items) (get_or items i d ∷ [])))
    ∙ ap (λ xs. total_width (map alone xs)) (sym (take_more items i d within))

pub below_next : (i : ℕ) (width width' : ℤ) → width ≤ℤ pos (2147483648 * i) → width' ≤ℤ (width +ℤ pos 2147483647) → width' ≤ℤ pos (2147483648 * (i + 1))
below_next i width width' so_far more = grind arith

pub above_next : (i : ℕ) (width width' : ℤ) → pos 0 ≤ℤ (width +ℤ pos (2147483648 * i)) → width ≤ℤ (width' +ℤ pos 2147483648)
    → pos 0 ≤ℤ (width' +ℤ pos (2147483648 * (i + 1)))
above_next i width width' so_far more = grind arith

pub ruleset signed = (to_z-of_z)
