-- The pending bytes: whole lines, and the beginning of the next line.
use Rattle.std.proofs.Common.{arith, ◌≡◌, ℕ, ◌+◌, ◌-◌, ◌<◌, ◌≤◌, List, [], ◌∷◌, ◌++◌, length, take, drop, refl, ap, sym, subst, ◌∙◌, append_assoc}
use Rattle.std.proofs.lemmas.Grind.{common_steps}
use Rattle.std.proofs.lemmas.List.{drop_at, drop-drop, drop-take, length_push, take-append-drop, take_at}
use Rattle.set_line.specs.Lines.{HasNoFeed}
use Rattle.line_chunks.specs.Pending.{EndsWithFeed}

-- what was read, behind the beginning of a line: up to its last line feed there are whole lines
module _ (rest read : List ℕ) (lines : ℕ) (within : lines ≤ length read) where
  pub lines_behind : 0 < lines → EndsWithFeed (take lines read) → EndsWithFeed (take (length rest + lines) (rest ++ read))
  lines_behind some ends = grind (arith, common_steps)

  pub rest_behind : HasNoFeed (drop lines read) → HasNoFeed (drop (length rest + lines) (rest ++ read))
  rest_behind none = subst HasNoFeed (sym (ap (λ bytes. drop lines bytes) (drop_at rest read (length rest) refl)) ∙ drop-drop lines (length rest) (rest ++ read)) none

-- bytes without a line feed that end with one are none
pub no_feed_at_end : (bytes : List ℕ) → HasNoFeed bytes → EndsWithFeed bytes → bytes ≡ []
no_feed_at_end [] none ends = refl
no_feed_at_end (byte ∷ bytes) none ends = absurd (none (length (byte ∷ bytes) - 1) 10 (omega arith) ends)

-- the whole lines, as they are stored
module _ (bytes : List ℕ) (start whole : ℕ) (within : start ≤ whole) where
  pub lines_stored : take (whole - start) (drop start bytes) ≡ drop start (take whole bytes)
  lines_stored =
      let is : start + (whole - start) ≡ whole = omega arith in
      sym (drop-take start (whole - start) bytes) ∙ ap (λ n. drop start (take n bytes)) is

  -- at a number of bytes
  pub lines_at : (count : ℕ) → drop start (take whole bytes) ≡ take count (take (whole - start) (drop start bytes)) ++ drop (start + count) (take whole bytes)
  lines_at count =
      rw lines_stored (sym (take-append-drop count (drop start (take whole bytes))) ∙ ap (λ rest. take count (drop start (take whole bytes)) ++ rest) (drop-drop count start (take whole bytes)))

  -- at the first line feed
  pub lines_at_feed : (part rest : List ℕ) → take (whole - start) (drop start bytes) ≡ part ++ 10 ∷ rest
      → drop start (take whole bytes) ≡ part ++ 10 ∷ drop (start + (length part + 1)) (take whole bytes)
  lines_at_feed part rest is =
      let count = length part + 1 in
      let here = is ∙ sym (append_assoc part (10 ∷ []) rest) in
      lines_at count
      ∙ (ap (λ front. take count front ++ drop (start + count) (take whole bytes)) here
      ∙ (ap (λ front. front ++ drop (start + count) (take whole bytes)) (take_at (part ++ 10 ∷ []) rest count (length_push part 10))
      ∙ append_assoc part (10 ∷ []) (drop (start + count) (take whole bytes))))
