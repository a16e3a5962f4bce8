-- What follows the bytes that a font can have changes neither its fault, nor the font, nor the text of its counts.
use Rattle.std.proofs.Common.{◌≡◌, ℕ, ◌+◌, ◌-◌, ◌*◌, ◌^◌, ◌<◌, ◌≤◌, Bool, true, false, List, [], ◌∷◌, ◌++◌, take, drop, length, get_or, min, zero, suc, Option, Some, None, inl, inr, arith, lit≤, refl, sym, ◌∙◌, ap, subst}
use Rattle.std.proofs.lemmas.Bool.{cases_lt, le-ltb, leb-false, lt-ltb}
use Rattle.std.specs.Prelude.{IfSome, OnOk, Result, Ok, Err, is_ok}
use Rattle.std.specs.Io.KnownBytes.{Consumes, IsAtEnd, Keeps}
use Rattle.std.proofs.lemmas.List.{append-nil, append_assoc, get_or-take, get_or-drop, length-take-le, take_all, take_min, take-take, drop-take}
use Rattle.tfm_words.specs.declared.numbers.Numbers.{Numbers}
use Rattle.tfm_words.specs.declared.count_fault.CountFault.{CountFault}
use Rattle.tfm_words.specs.Counts.{count_at, counts_of}
use Rattle.tfm_words.specs.CountFaults.{count_fault_of, faults_within, first_fault, is_too_large, range_faults}
use Rattle.tfm_words.specs.DesignSize.{design_size_of}
use Rattle.tfm_words.specs.Word.{word_at}
use Rattle.tfm_tables.specs.declared.fault.FontFault.TheVariants.{Counts}
use Rattle.tfm_tables.specs.Acceptance.{after_counts, font_fault_of, words_of}
use Rattle.tfm_tables.specs.Font.{FontValue, IsFontOf}
use Rattle.check_texts.specs.Warnings.{warnings_of}
use Rattle.tfm_requests.specs.Kept.{HaveSameFont, kept_of}

-- ---- the first n bytes

byte_of_front : (bytes : List ℕ) (n j i : ℕ) → j + i < n → get_or (drop j (take n bytes)) i 0 ≡ get_or (drop j bytes) i 0
byte_of_front bytes n j i h = get_or-drop j (take n bytes) i 0 ∙ (get_or-take n bytes (j + i) 0 h ∙ sym (get_or-drop j bytes i 0))

count_at-take : (bytes : List ℕ) (n k : ℕ) → 2 * k + 2 ≤ n → count_at (take n bytes) k ≡ count_at bytes k
count_at-take bytes n k h =
    rw (byte_of_front bytes n (2 * k) 0 (omega arith), byte_of_front bytes n (2 * k) 1 (omega arith)) refl

counts_of-take : (bytes : List ℕ) (n : ℕ) → 24 ≤ n → counts_of (take n bytes) ≡ counts_of bytes
unfolding counts_of
counts_of-take bytes n h =
    rw (
      count_at-take bytes n 0 (omega arith),
      count_at-take bytes n 1 (omega arith),
      count_at-take bytes n 2 (omega arith),
      count_at-take bytes n 3 (omega arith),
      count_at-take bytes n 4 (omega arith),
      count_at-take bytes n 5 (omega arith),
      count_at-take bytes n 6 (omega arith),
      count_at-take bytes n 7 (omega arith),
      count_at-take bytes n 8 (omega arith),
      count_at-take bytes n 9 (omega arith),
      count_at-take bytes n 10 (omega arith),
      count_at-take bytes n 11 (omega arith),
    ) refl

word_at-take : (bytes : List ℕ) (i m : ℕ) → 4 ≤ m → word_at (take (4 * i + m) bytes) i ≡ word_at bytes i
word_at-take bytes i m h = rw (drop-take (4 * i) m bytes) (take-take 4 m (drop (4 * i) bytes) h)

design_size_of-take : (bytes : List ℕ) (n : ℕ) → 32 ≤ n → design_size_of (take n bytes) ≡ design_size_of bytes
design_size_of-take bytes n h =
    let is : 4 * 7 + (n - 28) ≡ n = omega arith in
    let word : word_at (take n bytes) 7 ≡ word_at bytes 7 =
    subst (λ k. word_at (take k bytes) 7 ≡ word_at bytes 7) is (word_at-take bytes 7 (n - 28) (omega arith)) in
    rw word refl

-- ---- the faults of counts, of which one alone looks at how many bytes there are from the head on

module _ (most : ℕ) (reaches : 4 * (2 ^ 15 - 1) + 1 ≤ most) where
  long_enough : (c : Numbers) → is_too_large c.lf ≡ false → 4 * c.lf ≤ most
  long_enough c small = let below : c.lf < 2 ^ 15 = leb-false (2 ^ 15) c.lf small in omega arith

  by_length : (n : ℕ) (c : Numbers) → most ≤ n → (large : Bool) → is_too_large c.lf ≡ large → first_fault (faults_within most c) ≡ first_fault (faults_within n c)
  unfolding faults_within range_faults
  by_length n c long true large =
      rw (le-ltb most 24 (omega arith), le-ltb n 24 (omega arith), large) refl
  by_length n c long false small =
      let enough : 4 * c.lf ≤ most = long_enough c small in
      rw (le-ltb most 24 (omega arith), le-ltb n 24 (omega arith), le-ltb most (4 * c.lf) enough, le-ltb n (4 * c.lf) (omega arith)) refl

  not_too_large : (n : ℕ) (c : Numbers) → most ≤ n → (large : Bool) → is_too_large c.lf ≡ large → first_fault (faults_within n c) ≡ None → is_too_large c.lf ≡ false
  unfolding faults_within range_faults
  not_too_large n c long true large none =
      let some = rw (le-ltb n 24 (omega arith), large) at none in cc
  not_too_large n c long false small none = small

-- a file that is longer than a font can be: its first bytes say what it says
module _ (all : List ℕ) (most : ℕ) (reaches : 4 * (2 ^ 15 - 1) + 1 ≤ most) (long : most ≤ length all) where
  same_counts : counts_of (take most all) ≡ counts_of all
  same_counts = counts_of-take all most (omega arith)

  same_count_fault : count_fault_of (take most all) ≡ count_fault_of all
  same_count_fault =
      let whole : length (take most all) ≡ most = length-take-le most all long in
      rw (whole, same_counts) (by_length most reaches (length all) (counts_of all) long (is_too_large (counts_of all).lf) refl)

  same_words : count_fault_of all ≡ None → words_of (take most all) ≡ words_of all
  same_words none =
      let small = not_too_large most reaches (length all) (counts_of all) long (is_too_large (counts_of all).lf) refl none in
      rw same_counts (take-take (4 * (counts_of all).lf) most all (long_enough most reaches (counts_of all) small))

  after_same : (fault : Option CountFault) → count_fault_of all ≡ fault → after_counts (take most all) fault ≡ after_counts all fault
  after_same (Some fault) is = refl
  after_same None is = rw (same_words is) refl

  same_fault : font_fault_of (take most all) ≡ font_fault_of all
  same_fault = rw same_count_fault (after_same (count_fault_of all) refl)

  counts_accepted : (fault : Option CountFault) → after_counts all fault ≡ None → fault ≡ None
  counts_accepted (Some fault) none = let bad : Some (Counts fault) ≡ None = none in cc
  counts_accepted None none = refl

  same_font : (size : Option ℕ) (font : FontValue) → IsFontOf (take most all) size font → IsFontOf all size font
  same_font size font is =
      let accepted : font_fault_of all ≡ None = sym same_fault ∙ is.accepted in
      record { accepted = accepted; words = is.words ∙ same_words (counts_accepted (count_fault_of all) accepted); size = is.size }

  -- both files are longer than the font, or the whole one is, and then the kept bytes are, too
  same_warnings : font_fault_of all ≡ None → warnings_of (take most all) ≡ warnings_of all
  unfolding warnings_of
  same_warnings accepted =
      let none = counts_accepted (count_fault_of all) accepted in
      let small = not_too_large most reaches (length all) (counts_of all) long (is_too_large (counts_of all).lf) refl none in
      let below : (counts_of all).lf < 2 ^ 15 = leb-false (2 ^ 15) (counts_of all).lf small in
      let whole : length (take most all) ≡ most = length-take-le most all long in
      let words : length (words_of all) ≡ 4 * (counts_of all).lf = length-take-le (4 * (counts_of all).lf) all (omega (arith, below, reaches, long)) in
      rw (
        same_words none,
        whole,
        lt-ltb (length (words_of all)) most (omega (arith, words, below, reaches)),
        lt-ltb (length (words_of all)) (length all) (omega (arith, words, below, reaches, long)),
      ) refl

  same_of_long : HaveSameFont (take most all) all
  same_of_long = record {
    fault = same_fault;
    warnings = same_warnings;
    font = same_font;
    head = rw (same_count_fault, design_size_of-take all most (omega arith)) refl;
    counts = rw (same_counts, design_size_of-take all most (omega arith)) refl;
  }

same_of_equal : (kept all : List ℕ) → kept ≡ all → HaveSameFont kept all
same_of_equal kept all is = subst (λ k. HaveSameFont k all) (sym is) (record { fault = refl; warnings = λ _. refl; font = λ size font is'. is'; head = refl; counts = refl })

same_of_first : (all : List ℕ) (most : ℕ) → 4 * (2 ^ 15 - 1) + 1 ≤ most → HaveSameFont (take most all) all
same_of_first all most reaches = elim (cases_lt (length all) most) [
  | inr long ↦ same_of_long all most reaches long
  | inl short ↦ same_of_equal (take most all) all (take_all most all (omega arith))
]

-- the kept bytes of a file have the font of the whole file
pub kept_have_same_font : (all : List ℕ) → HaveSameFont (kept_of all) all
kept_have_same_font all = same_of_first all 131069 (lit≤ tt)

-- ---- some bytes more

take-append : (n : ℕ) (xs ys : List ℕ) → take n (xs ++ ys) ≡ take n xs ++ take (n - length (take n xs)) ys
take-append zero xs ys = refl
take-append (suc n) [] ys =
    let all : suc n - 0 ≡ suc n = omega arith in
    rw all refl
take-append (suc n) (x ∷ xs) ys =
    let rest : suc n - length (x ∷ take n xs) ≡ n - length (take n xs) = omega arith in
    rw (rest, take-append n xs ys) refl

take_more_of : (most : ℕ) (read old next : List ℕ) → old ≡ take most read → old ++ take (min (most - length old) (length next)) next ≡ take most (read ++ next)
take_more_of most read old next is =
    rw take_min (subst (λ o. o ++ take (most - length o) next ≡ take most (read ++ next)) (sym is) (sym (take-append most read next)))

-- the next bytes are kept if there is room for them
pub kept_more : (read old next : List ℕ) → old ≡ kept_of read → old ++ take (min (131069 - length old) (length next)) next ≡ kept_of (read ++ next)
kept_more read old next is = take_more_of 131069 read old next is

-- ---- a reader's bytes, some after the others

-- an interrupted read has taken none
pub nothing_read : (before after : Option (List ℕ)) → Keeps before after → Consumes before after []
nothing_read None after is = tt
nothing_read (Some bytes) None is = absurd is
nothing_read (Some bytes) (Some rest) is = sym is

pub consumed_more : (start now next : Option (List ℕ)) (read more : List ℕ) → Consumes start now read → Consumes now next more → Consumes start next (read ++ more)
consumed_more None now next read more first then = first
consumed_more (Some all) None next read more first then = elim first [ ]
consumed_more (Some all) (Some rest) None read more first then = elim then [ ]
consumed_more (Some all) (Some rest) (Some left) read more first then = first ∙ (ap (λ l. read ++ l) then ∙ sym (append_assoc read more left))

pub kept_at_end : (start now next : Option (List ℕ)) (read bytes : List ℕ) → Consumes start now read → Consumes now next [] → IsAtEnd next → bytes ≡ kept_of read
    → IfSome start (λ all. bytes ≡ kept_of all)
kept_at_end None now next read bytes first then end kept = first
kept_at_end (Some all) None next read bytes first then end kept = elim first [ ]
kept_at_end (Some all) (Some rest) None read bytes first then end kept = elim then [ ]
kept_at_end (Some all) (Some rest) (Some left) read bytes first then end kept =
    let whole : all ≡ read = first ∙ (ap (λ l. read ++ l) (then ∙ end) ∙ append-nil read) in
    subst (λ r. bytes ≡ kept_of r) (sym whole) kept

-- what was ensured of an answer that is no error
pub at_ok : {E : Type 0} (r : Result (Unit {0}) E) (P : Type 0) → is_ok r ≡ true → OnOk r P → P
at_ok (Ok u) P ok p = p
at_ok (Err e) P ok p = let bad : false ≡ true = ok in cc
