-- A word that is written into a list of bytes is read back, and the words before it are unchanged.
use Rattle.std.proofs.Common.{◌≡◌, ℕ, ℤ, ◌<◌, ◌≤◌, ◌+◌, ◌*◌, ◌++◌, List, [], length, take, drop, append-nil, FitsSigned, arith, ap, sym, ◌∙◌}
use Rattle.std.specs.Int.{w32, cast_signed, cast_unsigned, bytes_high_first}
use Rattle.std.proofs.lemmas.Int.{to_z-of_z}
use mir.ValLaws.{of_z_fits}
use Rattle.byteorder.specs.Endian.{big_number}
use Rattle.byteorder.specs.Numbers.{big_number-reads_back}
use Rattle.std.proofs.lemmas.List.{drop-append-le, take-append-le, take-append-drop, length-take-le, length-take, length-drop, drop_at, take_at}
use Rattle.tfm_words.specs.declared.table.Table.TheVariants.{LigKern, Kern}
use Rattle.tfm_words.specs.Word.{word_at, value_of}
use Rattle.tfm_tables.specs.Table.{entries_of}
use Rattle.tfm_tables.specs.Font.{FontValue}
use Rattle.prepared_font.specs.Layout.{HasHeader, HasKerns, HasStates, HasSteps, HasWidths, IsPreparedFrom, number_at, table_length}

-- equal words are equal numbers
pub same_number : (xs ys : List ℕ) (i : ℕ) → word_at xs i ≡ word_at ys i → number_at xs i ≡ number_at ys i
unfolding number_at
same_number xs ys i same = ap value_of same

-- a word in the front of a list
word_in_front : (xs zs : List ℕ) (k : ℕ) → 4 * k + 4 ≤ length xs → word_at (xs ++ zs) k ≡ word_at xs k
word_in_front xs zs k fits =
    ap (take 4) (drop-append-le (4 * k) xs zs (omega (arith, fits)))
    ∙ take-append-le 4 (drop (4 * k) xs) zs (omega (arith, fits, length-drop (4 * k) xs))

pub word_here : (xs word post : List ℕ) (i : ℕ) → 4 * i ≤ length xs → length word ≡ 4 → word_at (take (4 * i) xs ++ (word ++ post)) i ≡ word
word_here xs word post i fits long =
    ap (take 4) (drop_at (take (4 * i) xs) (word ++ post) (4 * i) (length-take-le (4 * i) xs fits))
    ∙ take_at word post 4 long

pub word_before : (xs zs : List ℕ) (i k : ℕ) → 4 * i ≤ length xs → k < i → word_at (take (4 * i) xs ++ zs) k ≡ word_at xs k
word_before xs zs i k fits lt =
    let long : 4 * k + 4 ≤ length (take (4 * i) xs) = omega (arith, lt, length-take-le (4 * i) xs fits) in
    word_in_front (take (4 * i) xs) zs k long
    ∙ sym (word_in_front (take (4 * i) xs) (drop (4 * i) xs) k long)
    ∙ ap (λ ys. word_at ys k) (take-append-drop (4 * i) xs)

-- a number is read back from its four bytes
pub number_of_bytes : (n : ℤ) → FitsSigned w32 n → value_of (bytes_high_first 4 (cast_unsigned w32 n)) ≡ n
number_of_bytes n fits =
    ap (λ bytes. cast_signed w32 (big_number 4 bytes)) (sym (append-nil (bytes_high_first 4 (cast_unsigned w32 n))))
    ∙ ap (cast_signed w32) (big_number-reads_back 4 (cast_unsigned w32 n) [] (omega (arith, (of_z_fits w32 n fits).fits)))
    ∙ to_z-of_z w32 n fits

-- ---- a part of a table whose words are unchanged

-- the words below an index are the same in both lists
abbrev pub SameBelow : ℕ → List ℕ → List ℕ → Type 0
SameBelow end xs ys = (k : ℕ) → k < end → word_at ys k ≡ word_at xs k

pub header_stays : (font : FontValue) (xs ys : List ℕ) → SameBelow 9 xs ys → HasHeader font xs → HasHeader font ys
header_stays font xs ys same is = record {
  magic = same_number ys xs 0 (same 0 (omega arith)) ∙ is.magic;
  version = same_number ys xs 1 (same 1 (omega arith)) ∙ is.version;
  total = same_number ys xs 2 (same 2 (omega arith)) ∙ is.total;
  steps = same_number ys xs 3 (same 3 (omega arith)) ∙ is.steps;
  kerns = same_number ys xs 4 (same 4 (omega arith)) ∙ is.kerns;
  right = same_number ys xs 5 (same 5 (omega arith)) ∙ is.right;
  left = same_number ys xs 6 (same 6 (omega arith)) ∙ is.left;
  space = same_number ys xs 7 (same 7 (omega arith)) ∙ is.space;
  size = same_number ys xs 8 (same 8 (omega arith)) ∙ is.size;
}

pub widths_stay : (font : FontValue) (xs ys : List ℕ) → SameBelow 265 xs ys → HasWidths font xs → HasWidths font ys
widths_stay font xs ys same is = λ code below. same_number ys xs (9 + code) (same (9 + code) (omega (arith, below))) ∙ is code below

pub states_stay : (font : FontValue) (xs ys : List ℕ) → SameBelow 521 xs ys → HasStates font xs → HasStates font ys
states_stay font xs ys same is = λ code below. same_number ys xs (265 + code) (same (265 + code) (omega (arith, below))) ∙ is code below

pub steps_stay : (font : FontValue) (xs ys : List ℕ) → SameBelow (521 + entries_of font.words LigKern) xs ys → HasSteps font xs → HasSteps font ys
steps_stay font xs ys same is = λ i below. same (521 + i) (omega (arith, below)) ∙ is i below

kerns_stay : (font : FontValue) (xs ys : List ℕ) → SameBelow (521 + entries_of font.words LigKern + entries_of font.words Kern) xs ys
    → HasKerns font xs → HasKerns font ys
kerns_stay font xs ys same is = λ k below.
    same_number ys xs (521 + entries_of font.words LigKern + k) (same (521 + entries_of font.words LigKern + k) (omega (arith, below))) ∙ is k below

-- ---- the beginning of a table

same_prefix : (bytes : List ℕ) (end n : ℕ) → 4 * end ≤ n → 4 * end ≤ length bytes → SameBelow end bytes (take n bytes)
same_prefix bytes end n low fits k below =
    sym (word_in_front (take n bytes) (drop n bytes) k (omega (arith, low, fits, below, length-take n bytes)))
    ∙ ap (λ ys. word_at ys k) (take-append-drop n bytes)

-- bytes that begin with a table still do so if bytes after the table are left out
pub prefix_is_prepared : (font : FontValue) (bytes : List ℕ) (n : ℕ) → IsPreparedFrom font bytes → table_length font.words ≤ n → IsPreparedFrom font (take n bytes)
prefix_is_prepared font bytes n is enough =
    let whole : SameBelow (521 + entries_of font.words LigKern + entries_of font.words Kern) bytes (take n bytes) =
    same_prefix bytes (521 + entries_of font.words LigKern + entries_of font.words Kern) n enough is.long in
    record {
      long = omega (arith, enough, is.long, length-take n bytes);
      header = header_stays font bytes (take n bytes) (λ k below. whole k (omega (arith, below))) is.header;
      widths = widths_stay font bytes (take n bytes) (λ k below. whole k (omega (arith, below))) is.widths;
      states = states_stay font bytes (take n bytes) (λ k below. whole k (omega (arith, below))) is.states;
      steps = steps_stay font bytes (take n bytes) (λ k below. whole k (omega (arith, below))) is.steps;
      kerns = kerns_stay font bytes (take n bytes) whole is.kerns;
      readable = is.readable;
    }
