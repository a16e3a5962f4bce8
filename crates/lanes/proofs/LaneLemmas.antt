-- Lines and their answers, one after the other.
use Rattle.std.proofs.Common.{arith, ◌≡◌, ℕ, suc, ◌+◌, ◌-◌, ◌≤◌, List, [], ◌∷◌, ◌++◌, length, take, drop, min, ap, sym, ◌∙◌, length-append, length-take, zero}
use Rattle.std.proofs.lemmas.List.{take-append-le, map-append, length-map}
use Rattle.std.specs.Prelude.{map}
use Rattle.std.proofs.Math.Seq.{take-add, take-append_seam}

module _ {I : Type 0} where
  -- the rest after the first of a rest
  pub drop_next : (n : ℕ) (lines rest : List I) (line : I) → drop n lines ≡ line ∷ rest → drop (n + 1) lines ≡ rest
  drop_next zero [] rest line e = absurd (grind (arith, e))
  drop_next (suc n) [] rest line e = absurd (grind (arith, e))
  drop_next zero (first ∷ lines) rest line e = grind (arith, e)
  drop_next (suc n) (first ∷ lines) rest line e = let one : suc n + 1 ≡ suc (n + 1) = omega arith in rw one (drop_next n lines rest line e)

module _ {I O : Type 0} where
  -- answers of the first lines are no more than the lines
  pub answers_few : (makes : I → O) (done : List O) (lines : List I) → done ≡ map makes (take (length done) lines)
      → length done ≤ length lines
  answers_few makes done lines e =
      let count : length done ≡ min (length done) (length lines) = ap length e ∙ length-map (take (length done) lines) makes ∙ length-take (length done) lines in
      omega (arith, count)

  -- more lines change no answer
  pub answers_more : (makes : I → O) (done : List O) (lines more : List I) → done ≡ map makes (take (length done) lines)
      → done ≡ map makes (take (length done) (lines ++ more))
  answers_more makes done lines more e =
      e ∙ ap (map makes) (sym (take-append-le (length done) lines more (answers_few makes done lines e)))

  -- the next line's answer
  pub answers_next : (makes : I → O) (done : List O) (lines rest : List I) (line : I)
      → done ≡ map makes (take (length done) lines) → drop (length done) lines ≡ line ∷ rest
      → done ++ makes line ∷ [] ≡ map makes (take (length (done ++ makes line ∷ [])) lines)
  answers_next makes done lines rest line e next =
      let count : length (done ++ makes line ∷ []) ≡ length done + 1 = length-append done (makes line ∷ []) in
      let longer : take (length done + 1) lines ≡ take (length done) lines ++ line ∷ [] = take-add (length done) 1 lines ∙ ap (λ l. take (length done) lines ++ take 1 l) next in
      rw (count, longer) (ap (λ d. d ++ makes line ∷ []) e ∙ sym (map-append makes (take (length done) lines) (line ∷ [])))

-- what stands before the last of a list
pub taken_front : {T : Type 0} (all front back : List T) → front ++ back ≡ all → take (length all - length back) all ≡ front
taken_front all front back e =
    let count : length front + length back ≡ length all = sym (length-append front back) ∙ ap length e in
    let before : length all - length back ≡ length front = omega (arith, count) in
    rw (before, sym e) (take-append_seam front back)
