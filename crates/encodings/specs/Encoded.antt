-- The numbers of an encoded line as they are kept: the codes, and the characters without codes, each with the number of
-- codes before it. A gap is such a character, or a soft hyphen, which stands for a break.
-- This project's own representation; Lines defines the numbers.
use Rattle.std.specs.Prelude.{◌≡◌, ℕ, ◌+◌, ◌-◌, ◌≤◌, true, List, [], ◌∷◌, ◌++◌, Option, Some, None, length, take, drop}
use Rattle.std.specs.Borrow.{Bor}
use Rattle.std.specs.List.{list_all}
use Rattle.encodings.specs.Lines.{is_code}
use Rattle.encodings.specs.Parts.{PartValue, parts_of}

-- the numbers of codes and gaps, after `from` codes that are left out
abbrev pub with_gaps : ℕ → List ℕ → List (ℕ × ℕ) → List ℕ
with_gaps from codes [] = codes
with_gaps from codes (gap ∷ gaps) =
    take (gap.0 - from) codes ++ (256 + gap.1) ∷ with_gaps gap.0 (drop (gap.0 - from) codes) gaps

-- gaps are in order, and between these two numbers of codes
abbrev pub AreBetween : ℕ → ℕ → List (ℕ × ℕ) → Type 0
AreBetween from end [] = from ≤ end
AreBetween from end (gap ∷ gaps) = (from ≤ gap.0) × AreBetween gap.0 end gaps

-- these are codes, after `from` others, and the gaps are in order and among them
abbrev pub AreLeft : ℕ → List (ℕ × ℕ) → Bor (List ℕ) → Type 0
AreLeft from gaps codes = AreBetween from (from + length codes.now) gaps × (list_all is_code codes.now ≡ true)

-- the parts that are still to come of these codes, after `from` others, and gaps; after the last part there are no codes
abbrev pub parts_left : Option (Bor (List ℕ)) → ℕ → List (ℕ × ℕ) → List PartValue
parts_left None from gaps = []
parts_left (Some codes) from gaps = parts_of (with_gaps from codes.now gaps)
