-- The lines of a text, and the line feeds after them.
use Rattle.std.proofs.Common.{arith, ◌≡◌, ◌≢◌, ℕ, suc, ◌-◌, ◌<◌, ◌==◌, Bool, true, false, List, [], ◌∷◌, ◌++◌, length, take, refl, ap, sym, ◌∙◌, append_assoc}
use Rattle.std.specs.Prelude.{cond}
use native.Mathlib.Numerals.{unary_clauses}
use Rattle.std.proofs.lemmas.Bool.Decides.{nat_tests}
use Rattle.std.proofs.lemmas.List.Sums.{sum_by-cons}
use Rattle.std.proofs.lemmas.List.Elements.{All-nil, All-push, All-head, All-tail}
use Rattle.set_line.specs.Lines.{HasNoFeed}
use Rattle.set_line.specs.Returns.{before_feed, lines_in}
use Rattle.set_line.proofs.ReturnLemmas.{lines_at_feed, no_lines}
use Rattle.line_chunks.specs.Pending.{EndsWithFeed, feeds_in}

-- ---- whole lines

-- induction over the lines of a text that ends with a line feed
module _ (P : List ℕ → Type 0) (nil : P []) (more : (line rest : List ℕ) → HasNoFeed line → P rest → P (line ++ 10 ∷ rest)) where
  one_more : (byte : ℕ) (bytes : List ℕ) → EndsWithFeed (byte ∷ bytes) → P bytes → (0 < length bytes → (line : List ℕ) → HasNoFeed line → P (line ++ bytes))
      → (line : List ℕ) → HasNoFeed line → P (line ++ byte ∷ bytes)
  one_more byte bytes ends rest behind line none = by (byte == 10) refl
    where
      some : (bytes : List ℕ) → byte ≢ 10 → EndsWithFeed (byte ∷ bytes) → 0 < length bytes
      some [] other ends = absurd (other ends)
      some (next ∷ bytes) other ends = omega arith

      by : (b : Bool) → (byte == 10) ≡ b → P (line ++ byte ∷ bytes)
      by true is =
          let feed : byte ≡ 10 = grind (arith, nat_tests, is) in
          rw feed (more line bytes none rest)
      by false is =
          let other : byte ≢ 10 = grind (arith, nat_tests, is) in
          rw (← append_assoc line (byte ∷ []) bytes)
          (behind (some bytes other ends) (line ++ byte ∷ []) (All-push (λ byte. byte ≢ 10) line byte none other))

  ended : (byte : ℕ) (bytes : List ℕ) → EndsWithFeed (byte ∷ bytes) → EndsWithFeed bytes
  ended byte [] ends = refl
  ended byte (next ∷ bytes) ends = simp unary_clauses (simp unary_clauses at ends)

  behind_line : (bytes : List ℕ) → EndsWithFeed bytes → P bytes × (0 < length bytes → (line : List ℕ) → HasNoFeed line → P (line ++ bytes))
  behind_line [] ends = (nil, λ some. absurd (omega arith))
  behind_line (byte ∷ bytes) ends =
      let rest = behind_line bytes (ended byte bytes ends) in
      let here = one_more byte bytes ends rest.0 rest.1 in
      (here [] (All-nil (λ byte. byte ≢ 10)), λ _. here)

  pub by_lines : (bytes : List ℕ) → EndsWithFeed bytes → P bytes
  by_lines bytes ends = (behind_line bytes ends).0

-- Law: the lines of a text that ends with a line feed, followed by another one, are those of both
pub lines_apart : (crlf : Bool) (front rest : List ℕ) → EndsWithFeed front → lines_in crlf (front ++ rest) ≡ lines_in crlf front ++ lines_in crlf rest
lines_apart crlf front rest = by_lines
    (λ bytes. lines_in crlf (bytes ++ rest) ≡ lines_in crlf bytes ++ lines_in crlf rest)
    (ap (λ lines. lines ++ lines_in crlf rest) (sym (no_lines crlf)))
    (λ line more none same.
    ap (lines_in crlf) (append_assoc line (10 ∷ more) rest) ∙ (lines_at_feed crlf line (more ++ rest) none
    ∙ (ap (λ lines. before_feed crlf line ∷ lines) same ∙ ap (λ lines. lines ++ lines_in crlf rest) (sym (lines_at_feed crlf line more none)))))
    front

feeds_more : (line rest : List ℕ) → HasNoFeed line → feeds_in (line ++ 10 ∷ rest) ≡ suc (feeds_in rest)
feeds_more [] rest none = sum_by-cons (λ byte. cond (byte == 10) 1 0) 10 rest ∙ omega arith
feeds_more (byte ∷ line) rest none =
    let other : byte ≢ 10 = All-head (λ byte. byte ≢ 10) byte line none in
    let here = sum_by-cons (λ byte. cond (byte == 10) 1 0) byte (line ++ 10 ∷ rest) in
    let fewer : feeds_in (line ++ 10 ∷ rest) ≡ suc (feeds_in rest) = feeds_more line rest (All-tail (λ byte. byte ≢ 10) byte line none) in
    grind (arith, nat_tests)

-- Law: a text that ends with a line feed has as many lines as line feeds
pub lines_counted : (crlf : Bool) (bytes : List ℕ) → EndsWithFeed bytes → length (lines_in crlf bytes) ≡ feeds_in bytes
lines_counted crlf = by_lines
    (λ bytes. length (lines_in crlf bytes) ≡ feeds_in bytes)
    (ap length (no_lines crlf))
    (λ line more none same. ap length (lines_at_feed crlf line more none) ∙ (ap suc same ∙ sym (feeds_more line more none)))

-- a text that ends with a line feed, and has one byte at least, has a line
pub some_lines : (crlf : Bool) (bytes : List ℕ) → EndsWithFeed bytes → bytes ≢ [] → 0 < length (lines_in crlf bytes)
some_lines crlf = by_lines
    (λ bytes. bytes ≢ [] → 0 < length (lines_in crlf bytes))
    (λ some. absurd (some refl))
    (λ line more none _. λ some. rw (lines_at_feed crlf line more none) (omega arith))
