-- The lines of a text, one after the other.
use Rattle.std.proofs.Common.{◌≡◌, ℕ, Bool, true, false, ◌<◌, ◌==◌, List, [], ◌∷◌, ◌++◌, length, arith, refl, ap, sym, ◌∙◌, append_assoc, length-append}
use Rattle.std.specs.Prelude.{⊤, cond}
use Rattle.std.specs.List.{All, onto_first, slice_split}
use Rattle.std.proofs.lemmas.Bool.Decides.{nat_tests}
use Rattle.std.proofs.lemmas.List.Splits.{slice_split_none, slice_split_at, length-slice_split}
use Rattle.set_line.specs.Lines.{without_empty_last, with_feeds, lines_of, AreWholeText, AreWholeWithFeed, HasNoFeed}

more_lines : (line : List ℕ) (lines : List (List ℕ)) → 0 < length lines → without_empty_last (line ∷ lines) ≡ line ∷ without_empty_last lines
more_lines line [] some = absurd (omega arith)
more_lines [] (next ∷ lines) some = refl
more_lines (byte ∷ line) (next ∷ lines) some = refl

last_line : (line : List ℕ) → 0 < length line → without_empty_last (line ∷ []) ≡ line ∷ []
last_line [] some = absurd (omega arith)
last_line (byte ∷ line) some = refl

-- one line more
pub one_line_more : (so_far so_far' : List (List ℕ)) (line pushed rest more all : List ℕ) → so_far' ≡ so_far ++ pushed ∷ [] → pushed ≡ line
    → lines_of rest ≡ line ∷ lines_of more → so_far ++ lines_of rest ≡ lines_of all → so_far' ++ lines_of more ≡ lines_of all
one_line_more so_far so_far' line pushed rest more all appended same cut whole =
    ap (λ xs. xs ++ lines_of more) (appended ∙ ap (λ x. so_far ++ x ∷ []) same)
    ∙ append_assoc so_far (line ∷ []) (lines_of more) ∙ ap (λ xs. so_far ++ xs) (sym cut) ∙ whole

-- ---- the laws

-- no byte passes the test for a line feed
none_passes : (line : List ℕ) → HasNoFeed line → All (λ byte. (byte == 10) ≡ false) line
none_passes line none = λ k d within. let other = none k d within in grind (arith, nat_tests)

pub cut_at_feed : (line rest : List ℕ) → HasNoFeed line → lines_of (line ++ 10 ∷ rest) ≡ line ∷ lines_of rest
unfolding lines_of
cut_at_feed line rest none =
    ap without_empty_last (slice_split_at (λ byte. byte == 10) line 10 rest (none_passes line none) refl)
    ∙ more_lines line (slice_split (λ byte. byte == 10) rest) (omega (arith, length-slice_split (λ byte. byte == 10) rest))

pub one_line : (line : List ℕ) → HasNoFeed line → 0 < length line → lines_of line ≡ line ∷ []
unfolding lines_of
one_line line none some = ap without_empty_last (slice_split_none (λ byte. byte == 10) line (none_passes line none)) ∙ last_line line some

pub no_bytes : lines_of [] ≡ []
unfolding lines_of
no_bytes = refl

-- ---- joined again

-- the parts of a text, joined again
abbrev joined : List (List ℕ) → List ℕ
joined parts = with_feeds (without_empty_last parts)

abbrev parts_of : List ℕ → List (List ℕ)
parts_of bytes = slice_split (λ byte. byte == 10) bytes

-- neither no part nor a single empty one
abbrev AreMore : List (List ℕ) → Type 0
AreMore [] = ⊥
AreMore ([] ∷ []) = ⊥
AreMore parts = ⊤

-- a byte more at the front of the first part
onto_joined : (byte : ℕ) (parts : List (List ℕ)) → AreMore parts → joined (onto_first byte parts) ≡ byte ∷ joined parts
onto_joined byte [] more = absurd more
onto_joined byte ([] ∷ []) more = absurd more
onto_joined byte ([] ∷ part ∷ parts) more = refl
onto_joined byte ((first ∷ part) ∷ parts) more = refl

empty_and_more : (parts : List (List ℕ)) → 0 < length parts → AreMore ([] ∷ parts)
empty_and_more [] some = absurd (omega arith)
empty_and_more (part ∷ parts) some = tt

are_more : (bytes : List ℕ) → 0 < length bytes → AreMore (parts_of bytes)
are_more [] some = absurd (omega arith)
are_more (byte ∷ bytes) some = by (byte == 10) (parts_of bytes) (omega (arith, length-slice_split (λ byte. byte == 10) bytes))
  where
    by : (b : Bool) (parts : List (List ℕ)) → 0 < length parts → AreMore (cond b ([] ∷ parts) (onto_first byte parts))
    by true parts some = empty_and_more parts some
    by false [] some = tt
    by false (part ∷ parts) some = tt

-- a byte more at the front of a text
one_byte_more : (byte : ℕ) (bytes whole : List ℕ) → 0 < length bytes → joined (parts_of bytes) ≡ whole → joined (parts_of (byte ∷ bytes)) ≡ byte ∷ whole
one_byte_more byte bytes whole some rest = by (byte == 10) refl
  where
    by : (b : Bool) → (byte == 10) ≡ b → joined (cond b ([] ∷ parts_of bytes) (onto_first byte (parts_of bytes))) ≡ byte ∷ whole
    by true is =
        let feed : 10 ≡ byte = grind (arith, nat_tests, is) in
        ap with_feeds (more_lines [] (parts_of bytes) (omega (arith, length-slice_split (λ byte. byte == 10) bytes)))
        ∙ ap (λ xs. 10 ∷ xs) rest ∙ ap (λ first. first ∷ whole) feed
    by false is = onto_joined byte (parts_of bytes) (are_more bytes some) ∙ ap (λ xs. byte ∷ xs) rest

parts_joined : (text : List ℕ) → joined (parts_of (text ++ 10 ∷ [])) ≡ text ++ 10 ∷ []
parts_joined [] = refl
parts_joined (byte ∷ text) =
    one_byte_more byte (text ++ 10 ∷ []) (text ++ 10 ∷ []) (omega (arith, length-append text (10 ∷ []))) (parts_joined text)

parts_joined_with_feed : (text : List ℕ) (last : ℕ) → (last == 10) ≡ false → joined (parts_of (text ++ last ∷ [])) ≡ text ++ last ∷ 10 ∷ []
parts_joined_with_feed [] last other = rw other refl
parts_joined_with_feed (byte ∷ text) last other =
    one_byte_more byte (text ++ last ∷ []) (text ++ last ∷ 10 ∷ []) (omega (arith, length-append text (last ∷ []))) (parts_joined_with_feed text last other)

pub whole_text : (text : List ℕ) → AreWholeText text
unfolding lines_of
whole_text text = parts_joined text

pub whole_with_feed : (text : List ℕ) (last : ℕ) → AreWholeWithFeed text last
unfolding lines_of
whole_with_feed text last = λ other. parts_joined_with_feed text last (grind (arith, nat_tests, other))

pub ruleset laws = (cut_at_feed, one_line, no_bytes, whole_text, whole_with_feed)
