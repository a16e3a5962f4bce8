-- The portions of a line: at a cut, joined again, and cut no further.
use Rattle.std.proofs.Common.{◌≡◌, ℕ, suc, ◌+◌, ◌<◌, ◌≤◌, Bool, true, false, List, [], ◌∷◌, ◌++◌, ◌||◌, length, take, drop, get_or, flat_map, Some, None, arith, rules, refl, ap, sym, subst, ◌∙◌, append-nil, append_assoc, drop-cons, length-append, length-take}
use Rattle.std.specs.Prelude.{◌&&◌, cond, filter, not, if◌then◌else◌}
use Rattle.std.specs.List.{All, slice_split, onto_first, position, position_or_len}
use Rattle.std.proofs.lemmas.Bool.Decides.{nat_tests}
use Rattle.std.proofs.lemmas.List.{get_or-take, take-append-drop}
use Rattle.std.proofs.lemmas.List.Elements.{All-from_get_or, All-head, All-nil, All-push, All-tail, filter-append}
use Rattle.std.proofs.lemmas.List.Quantifiers.{position-Some}
use Rattle.std.proofs.lemmas.List.Splits.{length-slice_split, slice_split_none}
use Rattle.std.proofs.lemmas.List.Sums.{fails_before_first, length-filter}
use Rattle.tfm_tables.specs.Font.{FontValue}
use Rattle.set_line.specs.Pieces.{Portion, run, skipped, space, bytes_of, cut_with, is_cut, is_missing, is_neither, is_space, pieces_of, portion_of, portions_in, portions_of, run_of, AreTheOnly, AreUncut, AreWhole, IsRun}
use Rattle.set_line.specs.Onward.{IsFirstCut}

-- ---- at a cut

-- the pieces before and after a byte that passes the test
split_apart : (p : ℕ → Bool) (xs : List ℕ) (cut : ℕ) (ys : List ℕ) → p cut ≡ true → slice_split p (xs ++ cut ∷ ys) ≡ slice_split p xs ++ slice_split p ys
split_apart p [] cut ys here = rw here refl
split_apart p (x ∷ xs) cut ys here =
    ap (λ parts. cond (p x) ([] ∷ parts) (onto_first x parts)) (split_apart p xs cut ys here)
    ∙ by (p x) (slice_split p xs) (omega (arith, length-slice_split p xs))
  where
    by : (b : Bool) (parts : List (List ℕ)) → 0 < length parts
        → cond b ([] ∷ (parts ++ slice_split p ys)) (onto_first x (parts ++ slice_split p ys)) ≡ cond b ([] ∷ parts) (onto_first x parts) ++ slice_split p ys
    by true parts some = refl
    by false [] some = absurd (omega arith)
    by false (part ∷ parts) some = refl

-- the portions before and after a cut
cut_apart : (right : Bool) (pieces more : List (List ℕ)) (cuts : List ℕ) (cut : ℕ) (others : List ℕ) → length pieces ≡ suc (length cuts)
    → cut_with right (pieces ++ more) (cuts ++ cut ∷ others) ≡ cut_with (is_space cut) pieces cuts ++ portion_of cut ∷ cut_with right more others
cut_apart right [] more cuts cut others same = absurd (omega arith)
cut_apart right (piece ∷ []) more [] cut others same = refl
cut_apart right (piece ∷ next ∷ pieces) more [] cut others same = absurd (omega arith)
cut_apart right (piece ∷ pieces) more (first ∷ cuts) cut others same =
    ap (λ ps. run_of piece (is_space first) ++ portion_of first ∷ ps) (cut_apart right pieces more cuts cut others (omega arith))
    ∙ sym (append_assoc (run_of piece (is_space first)) (portion_of first ∷ cut_with (is_space cut) pieces cuts) (portion_of cut ∷ cut_with right more others))

pub portions_at : (right : Bool) (font : FontValue) (codes : List ℕ) (cut : ℕ) (rest : List ℕ) → is_cut font cut ≡ true
    → portions_in right font (codes ++ cut ∷ rest) ≡ portions_in (is_space cut) font codes ++ portion_of cut ∷ portions_in right font rest
unfolding portions_in pieces_of
portions_at right font codes cut rest here =
    ap (λ ps. cut_with right ps (filter (is_cut font) (codes ++ cut ∷ rest))) (split_apart (is_cut font) codes cut rest here)
    ∙ ap (λ cs. cut_with right (slice_split (is_cut font) codes ++ slice_split (is_cut font) rest) cs)
    (filter-append (is_cut font) codes (cut ∷ rest) ∙ ap (λ b. filter (is_cut font) codes ++ cond b (cut ∷ filter (is_cut font) rest) (filter (is_cut font) rest)) here)
    ∙ cut_apart right (slice_split (is_cut font) codes) (slice_split (is_cut font) rest) (filter (is_cut font) codes) cut (filter (is_cut font) rest)
    (omega (arith, length-slice_split (is_cut font) codes, length-filter (is_cut font) codes))

of_neither : (a b : Bool) → (not a && b) ≡ true → (a ≡ false) × ((a || b) ≡ true)
of_neither true b neither = absurd (search rules)
of_neither false b neither = (refl, neither)

-- Law: a number that is neither a space nor a character divides a line, and the right boundary doesn't follow the run before it
pub portions_at_gap : (right : Bool) (font : FontValue) (codes : List ℕ) (gap : ℕ) (rest : List ℕ) → is_neither font gap ≡ true
    → portions_in right font (codes ++ gap ∷ rest) ≡ portions_in false font codes ++ skipped gap ∷ portions_in right font rest
portions_at_gap right font codes gap rest neither =
    let is = of_neither (is_space gap) (is_missing font gap) neither in
    portions_at right font codes gap rest is.1
    ∙ ap (λ b. portions_in b font codes ++ (if b then space else skipped gap) ∷ portions_in right font rest) is.0

filter_none : (p : ℕ → Bool) (xs : List ℕ) → All (λ x. p x ≡ false) xs → filter p xs ≡ []
filter_none p [] none = refl
filter_none p (x ∷ xs) none =
    let here : p x ≡ false = All-head (λ x. p x ≡ false) x xs none in
    rw here (filter_none p xs (All-tail (λ x. p x ≡ false) x xs none))

pub portions_run : (right : Bool) (font : FontValue) (codes : List ℕ) → IsRun font codes → portions_in right font codes ≡ run_of codes right
unfolding portions_in pieces_of
portions_run right font codes none =
    ap (λ ps. cut_with right ps (filter (is_cut font) codes)) (slice_split_none (is_cut font) codes none)
    ∙ ap (cut_with right (codes ∷ [])) (filter_none (is_cut font) codes none)

pub portions_cut : (right : Bool) (font : FontValue) (line codes : List ℕ) (cut : ℕ) (rest : List ℕ) → IsFirstCut font line codes cut rest
    → portions_in right font line ≡ run_of codes (is_space cut) ++ portion_of cut ∷ portions_in right font rest
portions_cut right font line codes cut rest first =
    ap (portions_in right font) first.whole ∙ portions_at right font codes cut rest first.here
    ∙ ap (λ ps. ps ++ portion_of cut ∷ portions_in right font rest) (portions_run (is_space cut) font codes first.before)

-- ---- the first cut

pub none_passes : (p : ℕ → Bool) (xs : List ℕ) → position p xs ≡ None → All (λ x. p x ≡ false) xs
none_passes p xs none = λ k d within. fails_before_first p xs k d (omega (arith, within, to_end none))
  where
    to_end : position p xs ≡ None → length xs ≤ position_or_len p xs
    to_end none = grind (arith, none)

-- what a search finds
pub first_is : (font : FontValue) (line codes behind rest : List ℕ) (at cut : ℕ) → position (is_cut font) line ≡ Some at → codes ≡ take at line → behind ≡ drop at line
    → behind ≡ cut ∷ rest → IsFirstCut font line codes cut rest
first_is font line codes behind rest at cut is front back split =
    let found = position-Some (is_cut font) line at 0 is in
    let from : get_or line at 0 ∷ drop (suc at) line ≡ cut ∷ rest = sym (drop-cons line at 0 found.0) ∙ sym back ∙ split in
    let same : get_or line at 0 ≡ cut = cc in
    record {
      whole = sym (take-append-drop at line) ∙ ap (λ xs. xs ++ drop at line) (sym front) ∙ ap (λ xs. codes ++ xs) (sym back ∙ split);
      before = subst (IsRun font) (sym front) (All-from_get_or (λ x. is_cut font x ≡ false) (take at line) 0 (λ k within.
          let below : k < at = omega (arith, length-take at line, within) in
          ap (is_cut font) (get_or-take at line k 0 below) ∙ found.2 k below));
      here = ap (is_cut font) (sym same) ∙ found.1;
    }

pub ruleset cuts = (first_is, none_passes)

pub cut_length : (font : FontValue) (line codes : List ℕ) (cut : ℕ) (rest : List ℕ) → IsFirstCut font line codes cut rest → length codes + length rest + 1 ≡ length line
cut_length font line codes cut rest first = omega (arith, ap length first.whole, length-append codes (cut ∷ rest))

-- ---- joined again, and cut no further

-- portions as the bytes that they stand for
abbrev joined : List Portion → List ℕ
joined portions = flat_map bytes_of portions

-- one portion of one byte, and more
one_joined : (byte : ℕ) → bytes_of (portion_of byte) ≡ byte ∷ []
one_joined byte = by (is_space byte) refl
  where
    by : (b : Bool) → is_space byte ≡ b → bytes_of (if b then space else skipped byte) ≡ byte ∷ []
    by true is = let same : 32 ≡ byte = grind (arith, nat_tests, is) in ap (λ first. first ∷ []) same
    by false is = refl

-- a run, a byte at which the line is cut, and more
joined_at : (codes : List ℕ) (right : Bool) (byte : ℕ) (more : List Portion) → joined (run_of codes right ++ portion_of byte ∷ more) ≡ codes ++ byte ∷ joined more
joined_at [] right byte more = ap (λ bytes. bytes ++ joined more) (one_joined byte)
joined_at (code ∷ codes) right byte more = ap (λ bytes. (code ∷ codes) ++ (bytes ++ joined more)) (one_joined byte)

uncut_at : (font : FontValue) (codes : List ℕ) (byte : ℕ) (more : List Portion) → IsRun font codes → is_cut font byte ≡ true → AreUncut font more
    → AreUncut font (run_of codes (is_space byte) ++ portion_of byte ∷ more)
uncut_at font codes byte more none here uncut = by (is_space byte) codes refl none here
  where
    by : (b : Bool) (codes : List ℕ) → is_space byte ≡ b → IsRun font codes → (b || is_missing font byte) ≡ true
        → AreUncut font (run_of codes b ++ (if b then space else skipped byte) ∷ more)
    by true [] is none here = uncut
    by true (code ∷ codes) is none here = (omega arith, none, refl, uncut)
    by false [] is none here = (rw is here, uncut)
    by false (code ∷ codes) is none here = (omega arith, none, refl, (rw is here, uncut))

-- these portions are the line, and can't be cut further
record AreOf (font : FontValue) (line : List ℕ) (portions : List Portion) : Type 0 where
  whole : joined portions ≡ line
  uncut : AreUncut font portions

whole_run : (font : FontValue) (codes : List ℕ) → IsRun font codes → AreOf font codes (run_of codes true)
whole_run font [] none = record { whole = refl; uncut = tt }
whole_run font (code ∷ codes) none = record { whole = append-nil (code ∷ codes); uncut = (omega arith, none, refl, tt) }

-- a run, and what follows it
are_of : (font : FontValue) (codes line : List ℕ) → IsRun font codes → AreOf font (codes ++ line) (portions_of font (codes ++ line))
are_of font codes [] none = rw (append-nil codes) (rw (portions_run true font codes none) (whole_run font codes none))
are_of font codes (byte ∷ bytes) none =
    by (is_cut font byte) refl (are_of font [] bytes (All-nil (λ x. is_cut font x ≡ false))) (are_of font (codes ++ byte ∷ []) bytes)
  where
    by : (b : Bool) → is_cut font byte ≡ b → AreOf font bytes (portions_of font bytes)
        → (IsRun font (codes ++ byte ∷ []) → AreOf font ((codes ++ byte ∷ []) ++ bytes) (portions_of font ((codes ++ byte ∷ []) ++ bytes)))
        → AreOf font (codes ++ byte ∷ bytes) (portions_of font (codes ++ byte ∷ bytes))
    by true here rest longer =
        rw (portions_at true font codes byte bytes here) (rw (portions_run (is_space byte) font codes none) (record {
          whole = joined_at codes (is_space byte) byte (portions_of font bytes) ∙ ap (λ more. codes ++ byte ∷ more) rest.whole;
          uncut = uncut_at font codes byte (portions_of font bytes) none here rest.uncut;
        }))
    by false other rest longer =
        subst (λ l. AreOf font l (portions_of font l)) (append_assoc codes (byte ∷ []) bytes)
        (longer (All-push (λ x. is_cut font x ≡ false) codes byte none other))

-- Law: the bytes of the portions of a line, joined together, are the line
pub line_joined : (font : FontValue) (line : List ℕ) → AreWhole font line
line_joined font line = (are_of font [] line (All-nil (λ x. is_cut font x ≡ false))).whole

-- Law: the portions of a line can't be cut further, and the right boundary may follow exactly those runs that
-- are followed by a space or by the end of the line
pub line_uncut : (font : FontValue) (line : List ℕ) → AreUncut font (portions_of font line)
line_uncut font line = (are_of font [] line (All-nil (λ x. is_cut font x ≡ false))).uncut

-- ---- no other portions

-- a run with a byte, and what follows it
some_run : (codes : List ℕ) (right : Bool) (more : List Portion) → 0 < length codes → run_of codes right ++ more ≡ run codes right ∷ more
some_run [] right more some = absurd (omega arith)
some_run (code ∷ codes) right more some = refl

run_then : (font : FontValue) (codes : List ℕ) (byte : ℕ) (portions : List Portion) → 0 < length codes → IsRun font codes → is_cut font byte ≡ true
    → portions ≡ portions_of font (joined portions)
    → run codes (is_space byte) ∷ portion_of byte ∷ portions ≡ portions_of font (codes ++ byte ∷ joined portions)
run_then font codes byte portions some none here rest =
    ap (λ ps. run codes (is_space byte) ∷ portion_of byte ∷ ps) rest
    ∙ sym (portions_at true font codes byte (joined portions) here
    ∙ ap (λ ps. ps ++ portion_of byte ∷ portions_of font (joined portions)) (portions_run (is_space byte) font codes none)
    ∙ some_run codes (is_space byte) (portion_of byte ∷ portions_of font (joined portions)) some)

same : (font : FontValue) (portions : List Portion) → AreUncut font portions → portions ≡ portions_of font (joined portions)
unfolding portions_in pieces_of
same font [] uncut = refl
same font (space ∷ portions) uncut = ap (λ ps. space ∷ ps) (same font portions uncut) ∙ sym (portions_at true font [] 32 (joined portions) refl)
same font (skipped code ∷ portions) uncut =
    ap (λ ps. skipped code ∷ ps) (same font portions uncut.1) ∙ sym (portions_at_gap true font [] code (joined portions) uncut.0)
same font (run codes right ∷ []) uncut =
    ap (λ b. run codes b ∷ []) uncut.2 ∙ sym (some_run codes true [] uncut.0) ∙ append-nil (run_of codes true)
    ∙ sym (ap (portions_of font) (append-nil codes) ∙ portions_run true font codes uncut.1)
same font (run codes right ∷ run more also ∷ portions) uncut = absurd (uncut.2)
same font (run codes right ∷ space ∷ portions) uncut =
    ap (λ b. run codes b ∷ space ∷ portions) uncut.2
    ∙ run_then font codes 32 portions uncut.0 uncut.1 refl (same font portions uncut.3)
same font (run codes right ∷ skipped code ∷ portions) uncut =
    let is = of_neither (is_space code) (is_missing font code) uncut.3.0 in
    ap (λ b. run codes b ∷ skipped code ∷ portions) (uncut.2 ∙ sym is.0)
    ∙ ap (λ b. run codes (is_space code) ∷ (if b then space else skipped code) ∷ portions) (sym is.0)
    ∙ run_then font codes code portions uncut.0 uncut.1 is.1 (same font portions uncut.3.1)

-- Law: no other list of portions has these bytes and can't be cut further
pub line_only : (font : FontValue) (line : List ℕ) → AreTheOnly font line
line_only font line = λ portions whole uncut. same font portions uncut ∙ ap (portions_of font) whole
