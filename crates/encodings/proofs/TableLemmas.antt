-- The tables by character and the tables by code give the same codes, which is computed for every character in
-- either of them.
use Rattle.std.proofs.Common.{◌≡◌, ◌≢◌, ℕ, zero, suc, ◌<◌, ◌≤◌, ◌+◌, ◌-◌, Bool, true, false, List, [], ◌∷◌, ◌++◌, ◌||◌, ◌&&◌, Option, Some, None, Bor, length, get_or, take, drop, arith, refl, ap, sym, ◌∙◌}
use Rattle.std.specs.Prelude.{not, nat_eq, nat_lt, map, bytes_eq, cond}
use Rattle.std.specs.List.{list_all, list_any, range_with_len, position_or_len}
use Rattle.std.specs.Option.{option_or}
use Rattle.std.proofs.lemmas.Bool.Decides.{nat_tests}
use Rattle.std.proofs.lemmas.Bool.{eqb-true, eq-eqb, ltb-true, ltb-false, lt-ltb, le-ltb}
use Rattle.std.proofs.lemmas.Slice.Eq.{bytes_eq-Decides}
use Rattle.std.proofs.lemmas.List.{get_or_past}
use Rattle.std.proofs.lemmas.List.Folds.{list_any-append}
use Rattle.std.proofs.lemmas.List.FromFn.{fill_by_all, get_or-map-range_with_len, length-map-range_with_len}
use Rattle.encodings.specs.declared.encoding.Encoding.{Encoding}
use Rattle.encodings.specs.declared.encoding.Encoding.TheVariants.{Ot1, T1, Ly1, Latin1, Vector}
use Rattle.encodings.specs.declared.lookup.TheConstants.{CODES}
use Rattle.encodings.specs.declared.vector.Vector.{Vector as VectorValue}
use Rattle.encodings.specs.Tables.{no, ot1_characters, t1_characters, ly1_characters, shared_others, ot1_others, t1_others, ly1_others}
use Rattle.encodings.specs.Codes.{codes_of, codes_beside, is_apart, listed_codes, own_code, characters_of, others_of}
use Rattle.encodings.specs.Vectors.{vector_characters}
use Rattle.encodings.specs.VectorTables.{character_indexed, single_at, single_of, single_with, singles_of}
use Rattle.encodings.specs.Lookup.{is_punctuation, is_table, index_of, rows_of, looked_up, singles_in, others_in}
pub use Rattle.encodings.proofs.VectorLemmas.{of_vector}

-- what all members of a list pass, each of them passes
pub at_member : (p : ℕ → Bool) (c : ℕ) (xs : List ℕ) → list_all p xs ≡ true → list_any (λ x. nat_eq x c) xs ≡ true → p c ≡ true
at_member p c [] all any = cc
at_member p c (x ∷ xs) all any = by (at_member p c xs) (nat_eq x c) refl (p x) refl all any
  where
    by : (list_all p xs ≡ true → list_any (λ y. nat_eq y c) xs ≡ true → p c ≡ true) → (b : Bool) → nat_eq x c ≡ b → (q : Bool) → p x ≡ q → q && list_all p xs ≡ true → b || list_any (λ y. nat_eq y c) xs ≡ true → p c ≡ true
    by rest true is true at all any = ap p (sym (eqb-true x c is)) ∙ at
    by rest true is false at all any = cc
    by rest false is true at all any = rest all any
    by rest false is false at all any = cc

-- a number below another is in the range up to it
pub in_range : (c from n : ℕ) → from ≤ c → c < from + n → list_any (λ x. nat_eq x c) (range_with_len from n) ≡ true
in_range c from zero low high = absurd (omega arith)
in_range c from (suc n) low high = by (in_range c (from + 1) n) (nat_eq from c) refl
  where
    by : (from + 1 ≤ c → c < from + 1 + n → list_any (λ x. nat_eq x c) (range_with_len (from + 1) n) ≡ true) → (b : Bool) → nat_eq from c ≡ b → b || list_any (λ x. nat_eq x c) (range_with_len (from + 1) n) ≡ true
    by rest true is = refl
    by rest false is = let other : from ≢ c = λ same. cc (eq-eqb from c same) in rest (omega arith) (omega arith)

-- ---- characters that no table has

pub no_row : (rows : List (ℕ × List ℕ)) (c : ℕ) → list_any (λ x. nat_eq x c) (map (λ r. r.0) rows) ≡ false → codes_beside rows c ≡ None
no_row [] c none = refl
no_row (row ∷ rows) c none = by (no_row rows c) (nat_eq row.0 c) none
  where
    by : (list_any (λ x. nat_eq x c) (map (λ r. r.0) rows) ≡ false → codes_beside rows c ≡ None) → (b : Bool) → b || list_any (λ x. nat_eq x c) (map (λ r. r.0) rows) ≡ false → cond b (Some row.1) (codes_beside rows c) ≡ None
    by rest true none = cc
    by rest false none = rest none

all_before : (p : ℕ → Bool) (xs : List ℕ) → list_any p xs ≡ false → position_or_len p xs ≡ length xs
all_before p [] none = refl
all_before p (x ∷ xs) none = by (all_before p xs) (p x) none
  where
    by : (list_any p xs ≡ false → position_or_len p xs ≡ length xs) → (b : Bool) → b || list_any p xs ≡ false → cond (not b) (1 + position_or_len p xs) 0 ≡ suc (length xs)
    by rest true none = cc
    by rest false none = omega (arith, rest none)

pub no_own_code : (xs : List ℕ) (c : ℕ) → list_any (λ x. nat_eq x c) xs ≡ false → own_code xs c ≡ None
no_own_code xs c none = grind (arith, nat_tests, all_before (λ x. nat_eq x c) xs none)

-- ---- a code alone

all_alone : list_all (λ c. bytes_eq (take 1 (drop c CODES)) (c ∷ [])) (range_with_len 0 256) ≡ true
all_alone = refl

-- the part of the list of codes at a code
pub code_alone : (c : ℕ) → c < 256 → take 1 (drop c CODES) ≡ c ∷ []
code_alone c below = (bytes_eq-Decides (take 1 (drop c CODES)) (c ∷ [])).0 (at_member (λ k. bytes_eq (take 1 (drop k CODES)) (k ∷ [])) c (range_with_len 0 256) all_alone (in_range c 0 256 (omega arith) (omega arith)))

-- ---- both tables

-- whether two results are the same
abbrev pub same : Option (List ℕ) → Option (List ℕ) → Bool
same None None = true
same None (Some b) = false
same (Some a) None = false
same (Some a) (Some b) = bytes_eq a b

pub same_is : (a b : Option (List ℕ)) → same a b ≡ true → a ≡ b
same_is None None is = refl
same_is None (Some b) is = cc
same_is (Some a) None is = cc
same_is (Some a) (Some b) is = ap Some ((bytes_eq-Decides a b).0 is)

-- ---- encodings whose codes are in tables

-- what holds of each table, and of each vector, holds of each encoding
pub by_table : (P : Encoding → Type 0) → ((encoding : Encoding) → is_table encoding ≡ true → P encoding) → ((vector : Bor VectorValue) → P (Vector vector)) → (encoding : Encoding) → P encoding
by_table P table vectors Ot1 = table Ot1 refl
by_table P table vectors T1 = table T1 refl
by_table P table vectors Ly1 = table Ly1 refl
by_table P table vectors Latin1 = table Latin1 refl
by_table P table vectors (Vector vector) = vectors vector

-- the codes in a table
pub of_table : (encoding : Encoding) (c : ℕ) → is_table encoding ≡ true → codes_of encoding c ≡ option_or (codes_beside (others_of encoding) c) (own_code (characters_of encoding) c)
unfolding codes_of
of_table Ot1 c table = refl
of_table T1 c table = refl
of_table Ly1 c table = refl
of_table Latin1 c table = refl
of_table (Vector vector) c table = cc

-- whether both tables give a character the same codes
abbrev agree_at : Encoding → ℕ → Bool
agree_at encoding c = nat_eq c no || same (looked_up (singles_in encoding) (rows_of (others_in encoding)) c) (codes_of encoding c)

-- the characters in either table
abbrev all_in : Encoding → List ℕ
all_in encoding = range_with_len 0 384 ++ (range_with_len 0x2000 64 ++ (map (λ r. r.0) (rows_of (others_in encoding)) ++ (map (λ r. r.0) (others_of encoding) ++ characters_of encoding)))

agrees : (encoding : Encoding) → is_table encoding ≡ true → list_all (agree_at encoding) (all_in encoding) ≡ true
unfolding codes_of characters_of others_of ot1_characters t1_characters ly1_characters shared_others ot1_others t1_others ly1_others singles_in others_in
agrees Ot1 table = refl
agrees T1 table = refl
agrees Ly1 table = refl
agrees Latin1 table = refl
agrees (Vector vector) table = cc

singles_length : (xs : List ℕ) → length (singles_of xs) ≡ 448
unfolding singles_of
singles_length xs = length-map-range_with_len (single_at xs) 0 448

pub singles_end : (encoding : Encoding) → length (singles_in encoding) ≡ 448
unfolding singles_in
singles_end Ot1 = refl
singles_end T1 = refl
singles_end Ly1 = refl
singles_end Latin1 = refl
singles_end (Vector vector) = singles_length (vector_characters vector.now.characters)

pub neither : (a b : Bool) → a || b ≡ false → (a ≡ false) × (b ≡ false)
neither true b is = cc
neither false b is = (refl, is)

-- the index of a character below U+0180, of one from U+2000 to U+203F, and of any other
pub index_low : (c : ℕ) → c < 384 → index_of c ≡ c
index_low c below = rw (lt-ltb c 384 below) refl

in_punctuation : (c : ℕ) → 0x2000 ≤ c → c < 0x2040 → is_punctuation c ≡ true
in_punctuation c above below = grind (arith, nat_tests)

punctuation_bounds : (c : ℕ) → is_punctuation c ≡ true → (0x2000 ≤ c) × (c < 0x2040)
punctuation_bounds c is = grind (arith, nat_tests)

pub index_of_punctuation : (c : ℕ) → 0x2000 ≤ c → c < 0x2040 → index_of c ≡ 384 + (c - 0x2000)
index_of_punctuation c above below = rw (le-ltb c 384 (omega arith), in_punctuation c above below) refl

index_outside : (c : ℕ) → 384 ≤ c → is_punctuation c ≡ false → index_of c ≡ 448
index_outside c above other = rw (le-ltb c 384 (omega arith), other) refl

no_single : (encoding : Encoding) (c : ℕ) → list_any (λ x. nat_eq x c) (range_with_len 0 384) ≡ false → list_any (λ x. nat_eq x c) (range_with_len 0x2000 64) ≡ false
    → get_or (singles_in encoding) (index_of c) 256 ≡ 256
no_single encoding c none others = by (nat_lt c 384) refl (is_punctuation c) refl
  where
    by : (b : Bool) → nat_lt c 384 ≡ b → (p : Bool) → is_punctuation c ≡ p → get_or (singles_in encoding) (index_of c) 256 ≡ 256
    by true is p _ = cc (in_range c 0 384 (omega arith) (ltb-true c 384 is))
    by false is true inside =
        let bounds = punctuation_bounds c inside in
        cc (in_range c 0x2000 64 bounds.0 bounds.1)
    by false is false outside =
        get_or_past (singles_in encoding) (index_of c) 256 (omega (arith, singles_end encoding, index_outside c (ltb-false c 384 is) outside))

nothing : (singles : List ℕ) (rows others : List (ℕ × List ℕ)) (characters : List ℕ) (c : ℕ) → get_or singles (index_of c) 256 ≡ 256 → codes_beside rows c ≡ None
    → codes_beside others c ≡ None → own_code characters c ≡ None → looked_up singles rows c ≡ option_or (codes_beside others c) (own_code characters c)
nothing singles rows others characters c single row other own = rw (single, row, other, own)

-- a character in neither table has no codes in either
agree_outside : (encoding : Encoding) (c : ℕ) → is_table encoding ≡ true → list_any (λ x. nat_eq x c) (all_in encoding) ≡ false → looked_up (singles_in encoding) (rows_of (others_in encoding)) c ≡ codes_of encoding c
agree_outside encoding c table none =
    let p = λ (x : ℕ). nat_eq x c in
    let rows = map (λ (r : ℕ × List ℕ). r.0) (rows_of (others_in encoding)) in
    let others = map (λ (r : ℕ × List ℕ). r.0) (others_of encoding) in
    let first = neither _ _ (sym (list_any-append p (range_with_len 0 384) (range_with_len 0x2000 64 ++ (rows ++ (others ++ characters_of encoding)))) ∙ none) in
    let second = neither _ _ (sym (list_any-append p (range_with_len 0x2000 64) (rows ++ (others ++ characters_of encoding))) ∙ first.1) in
    let third = neither _ _ (sym (list_any-append p rows (others ++ characters_of encoding)) ∙ second.1) in
    let last = neither _ _ (sym (list_any-append p others (characters_of encoding)) ∙ third.1) in
    nothing _ _ _ _ c (no_single encoding c first.0 second.0) (no_row (rows_of (others_in encoding)) c third.0) (no_row (others_of encoding) c last.0) (no_own_code (characters_of encoding) c last.1)
    ∙ sym (of_table encoding c table)

-- both tables give each character the same codes
tables_agree : (encoding : Encoding) (c : ℕ) → is_table encoding ≡ true → c ≢ no → looked_up (singles_in encoding) (rows_of (others_in encoding)) c ≡ codes_of encoding c
tables_agree encoding c table character = by (list_any (λ x. nat_eq x c) (all_in encoding)) refl
  where
    by : (b : Bool) → list_any (λ x. nat_eq x c) (all_in encoding) ≡ b → looked_up (singles_in encoding) (rows_of (others_in encoding)) c ≡ codes_of encoding c
    by true is = here (nat_eq c no) refl (at_member (agree_at encoding) c (all_in encoding) (agrees encoding table) is)
      where
        here : (b : Bool) → nat_eq c no ≡ b → b || same (looked_up (singles_in encoding) (rows_of (others_in encoding)) c) (codes_of encoding c) ≡ true → looked_up (singles_in encoding) (rows_of (others_in encoding)) c ≡ codes_of encoding c
        here true is it = absurd (character (eqb-true c no is))
        here false is it = same_is _ _ it
    by false is = agree_outside encoding c table is

-- the codes of a character that has a single code in its table
single_in_table : (encoding : Encoding) (c code : ℕ) → is_table encoding ≡ true → c < 0x110000 → get_or (singles_in encoding) (index_of c) 256 ≡ code → code < 256 → codes_of encoding c ≡ Some (code ∷ [])
single_in_table encoding c code table character is below =
    sym (tables_agree encoding c table (λ same. absurd (omega (arith, same)))) ∙ rw is (rw (lt-ltb code 256 below) refl)

-- ---- the table of a vector

pub table_filled : (xs singles : List ℕ) → length singles ≡ 448 → ((k : ℕ) → k < 448 → get_or singles k 0 ≡ single_at xs k) → singles ≡ singles_of xs
unfolding singles_of
table_filled xs singles long each = fill_by_all (single_at xs) singles 448 0 long each

pub single_there : (xs : List ℕ) (index : ℕ) → index < 448 → get_or (singles_of xs) index 256 ≡ single_at xs index
unfolding singles_of
single_there xs index below = get_or-map-range_with_len (single_at xs) 0 448 index index 256 below (omega arith)

entry_of : (xs : List ℕ) (c : ℕ) → index_of c < 448 → character_indexed (index_of c) ≡ c → get_or (singles_of xs) (index_of c) 256 ≡ single_with xs c
entry_of xs c within is = single_there xs (index_of c) within ∙ ap (single_with xs) is

alone : (o : Option (List ℕ)) (code : ℕ) → single_of o ≡ code → code < 256 → o ≡ Some (code ∷ [])
alone None code is below = absurd (omega (arith, is))
alone (Some []) code is below = absurd (omega (arith, is))
alone (Some (only ∷ [])) code is below = ap (λ k. Some (k ∷ [])) is
alone (Some (first ∷ second ∷ codes)) code is below = absurd (omega (arith, is))

alone_with : (xs : List ℕ) (c code : ℕ) → single_with xs c ≡ code → code < 256 → listed_codes xs c ≡ Some (code ∷ [])
alone_with xs c code is below = by (is_apart c) is
  where
    by : (b : Bool) → cond b 256 (single_of (listed_codes xs c)) ≡ code → listed_codes xs c ≡ Some (code ∷ [])
    by true is = absurd (omega (arith, is))
    by false is = alone (listed_codes xs c) code is below

single_listed : (xs : List ℕ) (c code : ℕ) → get_or (singles_of xs) (index_of c) 256 ≡ code → code < 256 → listed_codes xs c ≡ Some (code ∷ [])
single_listed xs c code single below = by (nat_lt c 384) refl (is_punctuation c) refl
  where
    there : (index : ℕ) → index_of c ≡ index → index < 448 → character_indexed index ≡ c → listed_codes xs c ≡ Some (code ∷ [])
    there index at within is = alone_with xs c code (sym (entry_of xs c (omega (arith, at, within)) (ap character_indexed at ∙ is)) ∙ single) below

    by : (b : Bool) → nat_lt c 384 ≡ b → (p : Bool) → is_punctuation c ≡ p → listed_codes xs c ≡ Some (code ∷ [])
    by true is p _ =
        let low = ltb-true c 384 is in
        there c (index_low c low) (omega (arith, low)) (rw (lt-ltb c 384 low) refl)
    by false is true inside =
        let bounds = punctuation_bounds c inside in
        let same : 0x2000 + (384 + (c - 0x2000) - 384) ≡ c = omega (arith, bounds.0) in
        there (384 + (c - 0x2000)) (index_of_punctuation c bounds.0 bounds.1) (omega (arith, bounds.1)) (rw (le-ltb (384 + (c - 0x2000)) 384 (omega arith)) same)
    by false is false outside =
        let past = get_or_past (singles_of xs) (index_of c) 256 (omega (arith, singles_length xs, index_outside c (ltb-false c 384 is) outside)) in
        absurd (omega (arith, single, past, below))

-- the codes of a character that has a single code in the table of a vector
single_in_vector : (vector : Bor VectorValue) (c code : ℕ) → get_or (singles_in (Vector vector)) (index_of c) 256 ≡ code → code < 256 → codes_of (Vector vector) c ≡ Some (code ∷ [])
unfolding singles_in
single_in_vector vector c code single below = of_vector vector c ∙ single_listed (vector_characters vector.now.characters) c code single below

pub single_is : (encoding : Encoding) (c code : ℕ) → c < 0x110000 → get_or (singles_in encoding) (index_of c) 256 ≡ code → code < 256 → codes_of encoding c ≡ Some (code ∷ [])
single_is encoding c code = by_table (λ e. c < 0x110000 → get_or (singles_in e) (index_of c) 256 ≡ code → code < 256 → codes_of e c ≡ Some (code ∷ []))
    (λ e table. single_in_table e c code table)
    (λ vector character. single_in_vector vector c code)
    encoding

-- a character that is set apart has none there
marked : (encoding : Encoding) → (get_or (singles_in encoding) 0xAD 256 ≡ 256) × (get_or (singles_in encoding) 401 256 ≡ 256)
unfolding singles_in
marked Ot1 = (refl, refl)
marked T1 = (refl, refl)
marked Ly1 = (refl, refl)
marked Latin1 = (refl, refl)
marked (Vector vector) =
    let xs = vector_characters vector.now.characters in (single_there xs 0xAD (omega arith), single_there xs 401 (omega arith))

pub not_apart : (encoding : Encoding) (c : ℕ) → get_or (singles_in encoding) (index_of c) 256 < 256 → is_apart c ≡ false
not_apart encoding c single = by (nat_eq c 0xAD) refl (nat_eq c 0x2011) refl
  where
    by : (s : Bool) → nat_eq c 0xAD ≡ s → (h : Bool) → nat_eq c 0x2011 ≡ h → s || h ≡ false
    by true soft h is = absurd (omega (arith, single, ap (λ k. get_or (singles_in encoding) (index_of k) 256) (eqb-true c 0xAD soft), (marked encoding).0))
    by false other true hyphen = absurd (omega (arith, single, ap (λ k. get_or (singles_in encoding) (index_of k) 256) (eqb-true c 0x2011 hyphen), (marked encoding).1))
    by false other false another = refl

-- the codes of a character that has none there
pub other_is : (encoding : Encoding) (c : ℕ) → is_table encoding ≡ true → c < 0x110000 → 256 ≤ get_or (singles_in encoding) (index_of c) 256 → codes_of encoding c ≡ codes_beside (rows_of (others_in encoding)) c
other_is encoding c table character above =
    sym (tables_agree encoding c table (λ same. absurd (omega (arith, same)))) ∙ rw (le-ltb (get_or (singles_in encoding) (index_of c) 256) 256 above) refl

pub ruleset found = (single_is, other_is, of_vector)
