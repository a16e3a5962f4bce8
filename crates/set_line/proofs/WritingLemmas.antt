-- The texts of items, and how long numbers are.
use Rattle.std.proofs.Common.{◌≡◌, ℕ, suc, ◌+◌, ◌^◌, ◌<◌, ◌≤◌, true, false, List, ◌∷◌, ◌++◌, length, drop, get_or, ℤ, pos, negsuc, int_le, unsigned_abs, flat_map, arith, rules, refl, sym, ◌∙◌, append_assoc, true≢false}
use Rattle.std.proofs.Math.Seq.{drop-cons}
use Rattle.std.proofs.lemmas.Fmt.{length-decimal-le}
use Rattle.std.specs.Prelude.{decimal}
use Rattle.std.specs.Fmt.{signed_decimal}
use Rattle.lig_kern.specs.declared.item.Item.{Item}
use Rattle.set_line.specs.Record.{text_in}
use lib.Dec.{leb-zero}
use Rattle.run_plan.specs.declared.version.Version.{Version}

-- a code has at most three digits
pub code_is_short : (code : ℕ) → code < 256 → length (decimal code) ≤ 3
code_is_short code small = length-decimal-le 3 code (omega arith) (omega arith) (omega arith)

-- the size of an amount has at most ten digits
pub size_is_short : (n : ℕ) → n < 2 ^ 32 → length (decimal n) ≤ 10
size_is_short n small = length-decimal-le 10 n (omega arith) (omega arith) (omega arith)

-- an amount that isn't below 0 is its size
pub plain_amount : (z : ℤ) → int_le (pos 0) z ≡ true → decimal (unsigned_abs z) ≡ signed_decimal z
plain_amount (pos n) e = refl
plain_amount (negsuc n) e = absurd (search rules)

-- an amount below 0 is a minus and its size
pub minus_amount : (z : ℤ) → int_le (pos 0) z ≡ false → 45 ∷ decimal (unsigned_abs z) ≡ signed_decimal z
minus_amount (pos n) e = absurd (true≢false (sym (leb-zero n) ∙ e))
minus_amount (negsuc n) e = refl

pub ruleset numbers = (code_is_short, size_is_short, plain_amount, minus_amount)

-- the texts from one item on are its text and those after it
pub texts_from : (version : Version) (items : List Item) (i : ℕ) (item : Item) → i < length items → get_or items i item ≡ item
    → flat_map (text_in version) (drop i items) ≡ text_in version item ++ flat_map (text_in version) (drop (i + 1) items)
texts_from version items i item within is =
    let next : i + 1 ≡ suc i = omega arith in
    rw next (rw (drop-cons items i item within) (rw is refl))

pub ruleset items = (texts_from, append_assoc)
