-- The stripping of carriage returns, piece by piece.
use Rattle.std.proofs.Common.{cond, get_or, take, ◌≡◌, ◌≢◌, ℕ, ◌-◌, ◌<◌, Bool, true, false, ◌==◌, ◌&&◌, List, [], ◌∷◌, ◌++◌, length, arith, refl, ap, sym, ◌∙◌}
use Rattle.std.proofs.lemmas.Bool.Decides.{nat_tests}
use native.Mathlib.Numerals.{unary_clauses}
use Rattle.std.proofs.lemmas.List.Elements.{All-tail, All-take}
use Rattle.set_line.specs.Lines.{HasNoFeed, lines_of}
use Rattle.set_line.specs.Returns.{before_feed, begins_with_feed, ends_with_return, lines_in, without_returns}
use Rattle.set_line.proofs.LineLemmas.{cut_at_feed, no_bytes as no_line, one_line}

-- the byte before these ones is a carriage return before a line feed
abbrev pub is_stripped : ℕ → List ℕ → Bool
is_stripped byte bytes = (byte == 13) && begins_with_feed bytes

-- ---- one byte

pub stripped : (byte : ℕ) (bytes : List ℕ) → is_stripped byte bytes ≡ true → without_returns (byte ∷ bytes) ≡ without_returns bytes
unfolding without_returns
stripped byte bytes is = rw is refl

pub kept : (byte : ℕ) (bytes : List ℕ) → is_stripped byte bytes ≡ false → without_returns (byte ∷ bytes) ≡ byte ∷ without_returns bytes
unfolding without_returns
kept byte bytes is = rw is refl

pub no_bytes : without_returns [] ≡ []
unfolding without_returns
no_bytes = refl

-- a byte before no line feed is kept
pub before_none : (byte : ℕ) (bytes : List ℕ) → begins_with_feed bytes ≡ false → is_stripped byte bytes ≡ false
before_none byte bytes none = by (byte == 13)
  where
    by : (b : Bool) → (b && begins_with_feed bytes) ≡ false
    by true = none
    by false = refl

-- ---- the laws

-- Law: an empty line stays as it is
pub feed_kept : (bytes : List ℕ) → without_returns (10 ∷ bytes) ≡ 10 ∷ without_returns bytes
feed_kept bytes = kept 10 bytes refl

-- a byte in a line, before another one, is kept
kept_in_line : (x y : ℕ) (line rest : List ℕ) → HasNoFeed (x ∷ y ∷ line) → without_returns (x ∷ y ∷ rest) ≡ x ∷ without_returns (y ∷ rest)
kept_in_line x y line rest none =
    let other : y ≢ 10 = none 1 0 (omega arith) in
    let is : (y == 10) ≡ false = grind (arith, nat_tests, other) in
    kept x (y ∷ rest) (before_none x (y ∷ rest) is)

-- Law: a last line without a line feed stays as it is, also with a carriage return at its end
pub kept_without_feed : (line : List ℕ) → HasNoFeed line → without_returns line ≡ line
kept_without_feed [] none = no_bytes
kept_without_feed (x ∷ []) none = kept x [] (before_none x [] refl) ∙ ap (λ bytes. x ∷ bytes) no_bytes
kept_without_feed (x ∷ y ∷ line) none =
    kept_in_line x y line line none ∙ ap (λ bytes. x ∷ bytes) (kept_without_feed (y ∷ line) (All-tail (λ byte. byte ≢ 10) x (y ∷ line) none))

before_feed_more : (x y : ℕ) (line : List ℕ) → before_feed true (x ∷ y ∷ line) ≡ x ∷ before_feed true (y ∷ line)
before_feed_more x y line = simp unary_clauses (by (get_or (y ∷ line) (length line) 0 == 13))
  where
    by : (b : Bool) → cond b (x ∷ take (length line) (y ∷ line)) (x ∷ y ∷ line) ≡ x ∷ cond b (take (length line) (y ∷ line)) (y ∷ line)
    by true = refl
    by false = refl

-- Law: a line before its line feed loses one carriage return at its end, if it has one, and no other byte
pub stripped_before_feed : (line rest : List ℕ) → HasNoFeed line → without_returns (line ++ 10 ∷ rest) ≡ before_feed true line ++ 10 ∷ without_returns rest
stripped_before_feed [] rest none = feed_kept rest
stripped_before_feed (x ∷ []) rest none = by (x == 13) refl
  where
    by : (b : Bool) → (x == 13) ≡ b → without_returns (x ∷ 10 ∷ rest) ≡ cond b [] (x ∷ []) ++ 10 ∷ without_returns rest
    by true is = stripped x (10 ∷ rest) (ap (λ b. b && true) is) ∙ feed_kept rest
    by false is = kept x (10 ∷ rest) (ap (λ b. b && true) is) ∙ ap (λ bytes. x ∷ bytes) (feed_kept rest)
stripped_before_feed (x ∷ y ∷ line) rest none =
    kept_in_line x y line (line ++ 10 ∷ rest) none
    ∙ (ap (λ bytes. x ∷ bytes) (stripped_before_feed (y ∷ line) rest (All-tail (λ byte. byte ≢ 10) x (y ∷ line) none))
    ∙ ap (λ bytes. bytes ++ 10 ∷ without_returns rest) (sym (before_feed_more x y line)))

-- ---- one line

-- a line before its line feed has no line feed
no_feed_before : (line : List ℕ) → HasNoFeed line → (b : Bool) → HasNoFeed (cond b (take (length line - 1) line) line)
no_feed_before line none true = All-take (λ byte. byte ≢ 10) (length line - 1) line none
no_feed_before line none false = none

-- Law: the first line is before the first line feed
pub lines_at_feed : (crlf : Bool) (line rest : List ℕ) → HasNoFeed line → lines_in crlf (line ++ 10 ∷ rest) ≡ before_feed crlf line ∷ lines_in crlf rest
lines_at_feed true line rest none =
    ap lines_of (stripped_before_feed line rest none) ∙ cut_at_feed (before_feed true line) (without_returns rest) (no_feed_before line none (ends_with_return line))
lines_at_feed false line rest none = cut_at_feed line rest none

-- Law: bytes without a line feed are a line
pub last_line : (crlf : Bool) (line : List ℕ) → HasNoFeed line → 0 < length line → lines_in crlf line ≡ line ∷ []
last_line true line none some = ap lines_of (kept_without_feed line none) ∙ one_line line none some
last_line false line none some = one_line line none some

pub no_lines : (crlf : Bool) → lines_in crlf [] ≡ []
no_lines true = ap lines_of no_bytes ∙ no_line
no_lines false = no_line
