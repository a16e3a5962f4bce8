-- The rows of glyphs are looked through one after another, and the parts of the list are in order.
use Rattle.std.proofs.Common.{◌≡◌, ℕ, zero, suc, ◌+◌, ◌-◌, ◌/◌, ◌<◌, ◌≤◌, Bool, true, false, ◌&&◌, cond, List, [], ◌∷◌, length, take, drop, get_or, Some, None, arith, refl, ap, sym, ◌∙◌, add-one, length-drop, subst}
use Rattle.std.specs.Prelude.{nat_le, bytes_eq}
use Rattle.std.proofs.Math.Nat.{div-eq-sub-div, div-eq_of_lt}
use Rattle.std.proofs.lemmas.Bool.{leb-true}
use Rattle.std.proofs.lemmas.List.{drop-take, get_or_past, take-take}
use Rattle.encoding_vectors.specs.declared.glyphs.list.TheConstants.{ROWS, STARTS}
use Rattle.encoding_vectors.specs.Glyphs.{digits_beside, listed_digits, pieces, rows_in, rows_of}

-- ---- the rows of a text

-- a text with a row at its front
pub row_there : (rows name : List ℕ) → length name + 6 ≤ length rows
    → digits_beside (rows_in (length name) rows) name
    ≡ cond (bytes_eq (take (length name) rows) name) (Some (take 4 (drop (length name + 1) rows))) (digits_beside (rows_in (length name) (drop (length name + 6) rows)) name)
row_there rows name long =
    let count = length name in let size = count + 6 in let rest = drop size rows in
    let fewer : length rows / size ≡ suc (length rest / size) =
    div-eq-sub-div {m = size} {n = length rows} (omega arith) long ∙ add-one ((length rows - size) / size) ∙ ap (λ n. suc (n / size)) (sym (length-drop size rows)) in
    let front : take count (take size rows) ≡ take count rows = take-take count size rows (omega arith) in
    let parts : size ≡ (count + 1) + 5 = omega arith in
    let digits : take 4 (drop (count + 1) (take size rows)) ≡ take 4 (drop (count + 1) rows) =
    ap (λ n. take 4 (drop (count + 1) (take n rows))) parts ∙ ap (take 4) (drop-take (count + 1) 5 rows) ∙ take-take 4 5 (drop (count + 1) rows) (omega arith) in
    ap (λ n. digits_beside (pieces n size rows) name) fewer
    ∙ ap (λ l. cond (bytes_eq l name) (Some (take 4 (drop (count + 1) (take size rows)))) (digits_beside (rows_in count rest) name)) front
    ∙ ap (λ l. cond (bytes_eq (take count rows) name) (Some l) (digits_beside (rows_in count rest) name)) digits

-- a text that is too short for a row
pub no_row : (rows name : List ℕ) → length rows < length name + 6 → digits_beside (rows_in (length name) rows) name ≡ None
no_row rows name short = ap (λ n. digits_beside (pieces n (length name + 6) rows) name) (div-eq_of_lt short)

-- ---- the parts of the list

-- each number is at most the next one and this bound
abbrev in_order : ℕ → List ℕ → Bool
in_order bound [] = true
in_order bound (first ∷ others) = (nat_le first (get_or others 0 bound) && nat_le first bound) && in_order bound others

both : (a b c : Bool) → (a && b) && c ≡ true → (a ≡ true) × (b ≡ true) × (c ≡ true)
both true true c is = (refl, refl, is)
both true false c is = cc
both false b c is = cc

next_there : (bound : ℕ) (numbers : List ℕ) (at : ℕ) → in_order bound numbers ≡ true → suc at < length numbers
    → (get_or numbers at 0 ≤ get_or numbers (suc at) 0) × (get_or numbers (suc at) 0 ≤ bound)
next_there bound [] at is within = absurd (omega arith)
next_there bound (first ∷ []) at is within = absurd (omega arith)
next_there bound (first ∷ (next ∷ others)) zero is within =
    let p = both (nat_le first next) (nat_le first bound) (in_order bound (next ∷ others)) is in
    let q = both (nat_le next (get_or others 0 bound)) (nat_le next bound) (in_order bound others) p.2 in (leb-true first next p.0, leb-true next bound q.1)
next_there bound (first ∷ (next ∷ others)) (suc at) is within =
    next_there bound (next ∷ others) at (both (nat_le first next) (nat_le first bound) (in_order bound (next ∷ others)) is).2 (omega arith)

all_in_order : in_order 74150 STARTS ≡ true
all_in_order = refl

pub part_there : (count : ℕ) → count < 40 → (get_or STARTS count 0 ≤ get_or STARTS (count + 1) 0) × (get_or STARTS (count + 1) 0 ≤ 74150)
part_there count few =
    let next : suc count ≡ count + 1 = sym (add-one count) in
    subst (λ n. (get_or STARTS count 0 ≤ get_or STARTS n 0) × (get_or STARTS n 0 ≤ 74150)) next (next_there 74150 STARTS count all_in_order (omega arith))

-- no name in the list is longer
pub too_long : (name : List ℕ) → 40 ≤ length name → listed_digits name ≡ None
unfolding listed_digits rows_of
too_long name long =
    let count = length name in
    let start = get_or STARTS count 0 in
    let end : get_or STARTS (count + 1) 0 ≡ 0 = get_or_past STARTS (count + 1) 0 (omega arith) in
    let none : get_or STARTS (count + 1) 0 - start ≡ 0 = omega (arith, end) in
    let empty : rows_of count ≡ [] = ap (λ n. take n (drop start ROWS.now)) none in
    ap (λ l. digits_beside (rows_in count l) name) empty ∙ no_row [] name (omega arith)
