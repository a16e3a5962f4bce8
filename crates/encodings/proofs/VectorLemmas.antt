-- Vectors: the characters of a list by code, each at the code that sets it, and the codes of a character among them.
use Rattle.std.proofs.Common.{◌≡◌, ◌≢◌, ◌⊎◌, inl, inr, ℕ, ◌+◌, ◌<◌, ◌≤◌, Bool, true, false, List, [], ◌∷◌, ◌&&◌, ◌||◌, not, cond, Option, Some, None, length, get_or, position, Bor, arith, refl, ap, sym, subst, ◌∙◌}
use Rattle.std.specs.Prelude.{◌==◌, is_some, nat_eq, nat_lt, MatchOption}
use Rattle.std.specs.Char.{IsScalar}
use Rattle.std.specs.List.{list_all, list_any}
use Rattle.std.specs.Option.{SomeIff, option_and_then, option_map, option_map_or, option_or}
use lib.Utf8.{scalar}
use Rattle.std.proofs.lemmas.Bool.Decides.{nat_tests}
use Rattle.std.proofs.lemmas.Bool.{and_parts, eqb-true, eq-eqb, le-ltb, lt-ltb, ltb-true}
use Rattle.std.proofs.lemmas.Option.{none-some, same_Some}
use Rattle.std.proofs.lemmas.List.{get_or_default}
use Rattle.std.proofs.lemmas.List.FromFn.{fill_by_all, get_or-map-range_with_len, length-map-range_with_len}
use Rattle.std.proofs.lemmas.List.Quantifiers.{position-Some}
use Rattle.std.proofs.lemmas.List.Sums.{fails_before_first, position_or_len_is}
use Rattle.encodings.specs.declared.encoding.Encoding.TheVariants.{Vector}
use Rattle.encodings.specs.declared.vector.Vector.{Vector as VectorValue}
use Rattle.encodings.specs.Tables.{no}
use Rattle.encodings.specs.Codes.{IsMadeOf, characters_of, codes_beside, codes_of, listed_codes, own_code}
use Rattle.encodings.specs.Lines.{is_code, numbers_of as numbers_in, set_apart}
use Rattle.encodings.specs.Vectors.{character_beside, given_at, given_characters, is_at_own, is_fixed, is_listed, is_place, is_quoted, lowest, number_at, numbers_of, own_at, own_characters, substitute_of, substitutes, unbroken, unless_fixed, vector_characters}

abbrev is : ℕ → ℕ → Bool
is c each = nat_eq each c

other_than : (a b : ℕ) → a ≢ b → nat_eq a b ≡ false
other_than a b other = grind (arith, nat_tests)

-- ---- the first code of a character

-- a character that is at a code, and at no lower one
first_at : (xs : List ℕ) (c at : ℕ) → at < length xs → ((k : ℕ) → k < at → nat_eq (get_or xs k no) c ≡ false) → get_or xs at no ≡ c → lowest xs c ≡ at
first_at xs c at within before same = position_or_len_is (is c) xs at no (omega arith) before (λ _. eq-eqb (get_or xs at no) c same)

found_at : (xs : List ℕ) (c at : ℕ) → lowest xs c ≡ at → at < length xs → position (is c) xs ≡ Some at
found_at xs c at same within = rw (same, lt-ltb at (length xs) within) refl

found_is : (xs : List ℕ) (c at : ℕ) → position (is c) xs ≡ Some at → (at < length xs) × (get_or xs at no ≡ c) × (lowest xs c ≡ at)
found_is xs c at found =
    let here = position-Some (is c) xs at no found in
    let same : get_or xs at no ≡ c = eqb-true (get_or xs at no) c here.1 in
    (here.0, same, first_at xs c at here.0 here.2 same)

none_at : (xs : List ℕ) (c : ℕ) → length xs ≤ lowest xs c → position (is c) xs ≡ None
none_at xs c past = rw (le-ltb (lowest xs c) (length xs) past) refl

none_found : (xs : List ℕ) (c : ℕ) → position (is c) xs ≡ None → length xs ≤ lowest xs c
none_found xs c none = by (nat_lt (lowest xs c) (length xs)) refl none
  where
    by : (b : Bool) → nat_lt (lowest xs c) (length xs) ≡ b → cond b (Some (lowest xs c)) None ≡ None → length xs ≤ lowest xs c
    by true below none = absurd (none-some _ (sym none))
    by false above none = grind (arith, nat_tests)

-- ---- characters that are set by other codes than their own

-- a character that isn't fixed isn't among the unbroken ones, and no other one but the space is fixed
unfixed : (c : ℕ) → is_fixed c ≡ false → codes_beside unbroken c ≡ None
unfixed c other = by (nat_eq c 0x20) (nat_eq 0xA0 c) (nat_eq 0xAD c) other
  where
    by : (s n h : Bool) → s || (n || (h || false)) ≡ false → ◌≡◌ {A = Option (List ℕ)} (cond n (Some (32 ∷ [])) (cond h (Some []) None)) None
    by false false false other = refl
    by true n h other = cc
    by false true h other = cc
    by false false true other = cc

-- the codes of a character: those that it always has, its own, or those of the one as which it is set
abbrev as_other : List ℕ → ℕ → Option (List ℕ)
as_other xs c = option_and_then (own_code xs) (substitute_of c)

pub listed_fixed : (xs : List ℕ) (c : ℕ) (codes : List ℕ) → codes_beside unbroken c ≡ Some codes → listed_codes xs c ≡ Some codes
listed_fixed xs c codes found = ap (λ o. option_or o (option_or (own_code xs c) (as_other xs c))) found

listed_other : (xs : List ℕ) (c : ℕ) → codes_beside unbroken c ≡ None → listed_codes xs c ≡ option_or (own_code xs c) (as_other xs c)
listed_other xs c fixed = ap (λ o. option_or o (option_or (own_code xs c) (as_other xs c))) fixed

listed_found : (xs : List ℕ) (c at : ℕ) → codes_beside unbroken c ≡ None → position (is c) xs ≡ Some at → listed_codes xs c ≡ Some (at ∷ [])
listed_found xs c at fixed found = listed_other xs c fixed ∙ ap (λ (o : Option ℕ). option_or (option_map (λ code. code ∷ []) o) (as_other xs c)) found

listed_as : (xs : List ℕ) (c : ℕ) → codes_beside unbroken c ≡ None → position (is c) xs ≡ None → listed_codes xs c ≡ as_other xs c
listed_as xs c fixed none = listed_other xs c fixed ∙ ap (λ (o : Option ℕ). option_or (option_map (λ code. code ∷ []) o) (as_other xs c)) none

-- what holds of each character as which others are set
beside_all : (p : ℕ → Bool) (rows : List (ℕ × ℕ)) (c other : ℕ) → list_all (λ row. p row.1) rows ≡ true → character_beside rows c ≡ Some other → p other ≡ true
beside_all p [] c other all found = absurd (none-some other found)
beside_all p (row ∷ rows) c other all found = by (beside_all p rows c other) (nat_eq row.0 c) (and_parts _ _ all) found
  where
    by : (list_all (λ each. p each.1) rows ≡ true → character_beside rows c ≡ Some other → p other ≡ true) → (b : Bool) → (p row.1 ≡ true) × (list_all (λ each. p each.1) rows ≡ true) → cond b (Some row.1) (character_beside rows c) ≡ Some other → p other ≡ true
    by rest true parts found = ap p (sym (same_Some _ _ found)) ∙ parts.0
    by rest false parts found = rest parts.1 found

other_character : (c other : ℕ) → substitute_of c ≡ Some other → other < no
other_character c other found = ltb-true other no (beside_all (λ each. nat_lt each no) substitutes c other refl found)

other_unfixed : (c other : ℕ) → substitute_of c ≡ Some other → is_fixed other ≡ false
other_unfixed c other found = by (is_fixed other) (beside_all (λ each. not (is_fixed each)) substitutes c other refl found)
  where
    by : (b : Bool) → not b ≡ true → b ≡ false
    by true not_is = cc
    by false not_is = refl

-- ---- each character at the code that sets it

own_length : (xs : List ℕ) → length (own_characters xs) ≡ length xs
unfolding own_characters
own_length xs = length-map-range_with_len (own_at xs) 0 (length xs)

own_there : (xs : List ℕ) (code : ℕ) → code < length xs → get_or (own_characters xs) code no ≡ own_at xs code
unfolding own_characters
own_there xs code within = get_or-map-range_with_len (own_at xs) 0 (length xs) code code no within (omega arith)

own_if_place : (xs : List ℕ) (code : ℕ) → is_place xs code ≡ true → is_quoted xs (get_or xs code no) ≡ false → own_at xs code ≡ get_or xs code no
own_if_place xs code place plain = rw (place, plain) refl

own_each : (xs : List ℕ) → ((k : ℕ) → k < length xs → get_or xs k no ≡ own_at xs k) → xs ≡ own_characters xs
unfolding own_characters
own_each xs each = fill_by_all (own_at xs) xs (length xs) no refl each

-- a code has the character of the list, which it sets, or none
abbrev OwnOrNone : List ℕ → ℕ → Type 0
OwnOrNone xs code = ((own_at xs code ≡ get_or xs code no) × (is_place xs code ≡ true) × (is_quoted xs (get_or xs code no) ≡ false)) ⊎ (own_at xs code ≡ no)

own_or_none : (xs : List ℕ) (code : ℕ) → OwnOrNone xs code
own_or_none xs code = by (is_place xs code) refl (is_quoted xs (get_or xs code no)) refl
  where
    by : (b : Bool) → is_place xs code ≡ b → (q : Bool) → is_quoted xs (get_or xs code no) ≡ q
        → ((cond (b && not q) (get_or xs code no) no ≡ get_or xs code no) × (is_place xs code ≡ true) × (is_quoted xs (get_or xs code no) ≡ false)) ⊎ (cond (b && not q) (get_or xs code no) no ≡ no)
    by true place false plain = inl (refl, place, plain)
    by true place true quoted = inr refl
    by false other q quoted = inr refl

-- a code that sets its character is the character's number, or the character isn't there and this is its lowest code
place_is : (xs : List ℕ) (k c : ℕ) → get_or xs k no ≡ c → is_place xs k ≡ true → (c ≡ k) ⊎ ((is_at_own xs c ≡ false) × (lowest xs c ≡ k))
place_is xs k c here place = by (nat_eq c k) refl (is_at_own xs c) refl (nat_eq (lowest xs c) k) refl (rw here at place)
  where
    by : (b : Bool) → nat_eq c k ≡ b → (o : Bool) → is_at_own xs c ≡ o → (l : Bool) → nat_eq (lowest xs c) k ≡ l → b || (not o && l) ≡ true → (c ≡ k) ⊎ ((is_at_own xs c ≡ false) × (lowest xs c ≡ k))
    by true same o own l low place = inl (eqb-true c k same)
    by false other false away true low place = inr (away, eqb-true _ _ low)
    by false other true own l low place = cc
    by false other false away false low place = cc

own_there_is : (xs : List ℕ) (c : ℕ) → c < length xs → get_or xs c no ≡ c → is_at_own xs c ≡ true
own_there_is xs c within here = rw (lt-ltb c (length xs) within, eq-eqb _ _ here) refl

-- only one code sets a character
one_place : (xs : List ℕ) (j k c : ℕ) → j < length xs → k < length xs → get_or xs j no ≡ c → get_or xs k no ≡ c → is_place xs j ≡ true → is_place xs k ≡ true → j ≡ k
one_place xs j k c inside within one other place another = by (place_is xs j c one place) (place_is xs k c other another)
  where
    by : (c ≡ j) ⊎ ((is_at_own xs c ≡ false) × (lowest xs c ≡ j)) → (c ≡ k) ⊎ ((is_at_own xs c ≡ false) × (lowest xs c ≡ k)) → j ≡ k
    by (inl first) (inl second) = sym first ∙ second
    by (inl first) (inr second) = absurd (cc (own_there_is xs c (omega (arith, first)) (ap (λ n. get_or xs n no) first ∙ one), second.0))
    by (inr first) (inl second) = absurd (cc (own_there_is xs c (omega (arith, second)) (ap (λ n. get_or xs n no) second ∙ other), first.0))
    by (inr first) (inr second) = sym first.1 ∙ second.1

-- a code that has its own character sets it
own_is : (xs : List ℕ) (k c : ℕ) → k < length xs → get_or (own_characters xs) k no ≡ c → c ≢ no → (get_or xs k no ≡ c) × (is_place xs k ≡ true) × (is_quoted xs c ≡ false)
own_is xs k c within here some = by (own_or_none xs k)
  where
    by : OwnOrNone xs k → (get_or xs k no ≡ c) × (is_place xs k ≡ true) × (is_quoted xs c ≡ false)
    by (inl own) =
        let same : get_or xs k no ≡ c = sym own.0 ∙ sym (own_there xs k within) ∙ here in (same, own.1, rw same at own.2)
    by (inr none) = absurd (some (sym here ∙ own_there xs k within ∙ none))

-- a code's own character is at no other code
own_alone : (xs : List ℕ) (code : ℕ) → code < length (own_characters xs) → get_or (own_characters xs) code no ≢ no → lowest (own_characters xs) (get_or (own_characters xs) code no) ≡ code
own_alone xs code inside some = first_at (own_characters xs) (get_or (own_characters xs) code no) code inside before refl
  where
    within : code < length xs
    within = omega (arith, own_length xs)

    before : (k : ℕ) → k < code → nat_eq (get_or (own_characters xs) k no) (get_or (own_characters xs) code no) ≡ false
    before k below = other_than _ _ (λ same.
        let c = get_or (own_characters xs) code no in
        let one = own_is xs k c (omega (arith, within)) same some in
        let other = own_is xs code c within refl some in
        absurd (omega (arith, below, one_place xs k code c (omega (arith, within)) within one.0 other.0 one.1 other.1)))

-- a character that no code of a list has, none has as its own
none_left : (xs : List ℕ) (c : ℕ) → c ≢ no → is_listed xs c ≡ false → is_listed (own_characters xs) c ≡ false
none_left xs c some none = by (position (is c) (own_characters xs)) refl
  where
    absent : (o : Option ℕ) → is_some o ≡ false → o ≡ None
    absent None is = refl
    absent (Some at) is = cc

    by : (o : Option ℕ) → position (is c) (own_characters xs) ≡ o → is_some o ≡ false
    by None is = refl
    by (Some at) found =
        let here = found_is (own_characters xs) c at found in
        let within : at < length xs = omega (arith, here.0, own_length xs) in
        let past : length xs ≤ lowest xs c = none_found xs c (absent _ none) in
        absurd (cc (eq-eqb _ _ (own_is xs at c within here.1 some).0, fails_before_first (is c) xs at no (omega (arith, past, within))))

still_plain : (xs : List ℕ) (c : ℕ) → is_quoted xs c ≡ false → is_quoted (own_characters xs) c ≡ false
still_plain xs c plain = by (nat_eq c 0x27) (nat_eq c 0x60) (is_listed xs 0x2019) refl (is_listed xs 0x2018) refl plain
  where
    by : (a b : Bool) → (r : Bool) → is_listed xs 0x2019 ≡ r → (l : Bool) → is_listed xs 0x2018 ≡ l → (a && r) || (b && l) ≡ false
        → (a && is_listed (own_characters xs) 0x2019) || (b && is_listed (own_characters xs) 0x2018) ≡ false
    by false false r right l left plain = refl
    by true false false right l left plain = rw (none_left xs 0x2019 (λ same. absurd (omega (arith, same))) right) refl
    by false true r right false left plain = none_left xs 0x2018 (λ same. absurd (omega (arith, same))) left
    by true true false right false left plain = rw (none_left xs 0x2019 (λ same. absurd (omega (arith, same))) right) (none_left xs 0x2018 (λ same. absurd (omega (arith, same))) left)
    by true false true right l left plain = cc
    by true true true right l left plain = cc
    by false true r right true left plain = cc
    by true true false right true left plain = cc

-- ---- the characters at the 256 codes

given_length : (numbers : List ℕ) → length (given_characters numbers) ≡ 256
unfolding given_characters
given_length numbers = length-map-range_with_len (given_at numbers) 0 256

given_there : (numbers : List ℕ) (code : ℕ) → code < 256 → get_or (given_characters numbers) code no ≡ given_at numbers code
unfolding given_characters
given_there numbers code below = get_or-map-range_with_len (given_at numbers) 0 256 code code no below (omega arith)

given_each : (xs : List ℕ) → length xs ≡ 256 → ((k : ℕ) → k < 256 → get_or xs k no ≡ given_at xs k) → xs ≡ given_characters xs
unfolding given_characters
given_each xs long each = fill_by_all (given_at xs) xs 256 no long each

given_feed : (numbers : List ℕ) → given_at numbers 10 ≡ no
unfolding given_at
given_feed numbers = refl

given_space : (numbers : List ℕ) → given_at numbers 32 ≡ 0x20
unfolding given_at
given_space numbers = refl

given_else : (numbers : List ℕ) (code : ℕ) → code ≢ 10 → code ≢ 32 → given_at numbers code ≡ unless_fixed (get_or numbers code no)
unfolding given_at
given_else numbers code not_feed not_space = rw (other_than code 10 not_feed, other_than code 32 not_space) refl

unless_unbroken : (number : ℕ) → codes_beside unbroken (unless_fixed number) ≡ None
unless_unbroken number = by (scalar number) (is_fixed number) refl
  where
    by : (s q : Bool) → is_fixed number ≡ q → codes_beside unbroken (cond (s && not q) number no) ≡ None
    by true true same = refl
    by true false other = unfixed number other
    by false q other = refl

-- the characters at code 10, at code 32, and at another code
feed_or_other : (numbers : List ℕ) (code : ℕ) → ((code ≡ 10) × (given_at numbers code ≡ no)) ⊎ (((code ≡ 32) × (given_at numbers code ≡ 0x20)) ⊎ ((code ≢ 10) × (code ≢ 32) × (given_at numbers code ≡ unless_fixed (get_or numbers code no))))
feed_or_other numbers code = by (nat_eq code 10) refl (nat_eq code 32) refl
  where
    by : (f : Bool) → nat_eq code 10 ≡ f → (s : Bool) → nat_eq code 32 ≡ s
        → ((code ≡ 10) × (given_at numbers code ≡ no)) ⊎ (((code ≡ 32) × (given_at numbers code ≡ 0x20)) ⊎ ((code ≢ 10) × (code ≢ 32) × (given_at numbers code ≡ unless_fixed (get_or numbers code no))))
    by true feed s space = inl (eqb-true code 10 feed, ap (given_at numbers) (eqb-true code 10 feed) ∙ given_feed numbers)
    by false feed true space = inr (inl (eqb-true code 32 space, ap (given_at numbers) (eqb-true code 32 space) ∙ given_space numbers))
    by false feed false space =
        let not_feed : code ≢ 10 = λ same. cc (eq-eqb code 10 same, feed) in
        let not_space : code ≢ 32 = λ same. cc (eq-eqb code 32 same, space) in
        inr (inr (not_feed, not_space, given_else numbers code not_feed not_space))

-- no code has a no-break space or a soft hyphen
given_unbroken : (numbers : List ℕ) (code : ℕ) → codes_beside unbroken (given_at numbers code) ≡ None
given_unbroken numbers code = by (feed_or_other numbers code)
  where
    by : ((code ≡ 10) × (given_at numbers code ≡ no)) ⊎ (((code ≡ 32) × (given_at numbers code ≡ 0x20)) ⊎ ((code ≢ 10) × (code ≢ 32) × (given_at numbers code ≡ unless_fixed (get_or numbers code no)))) → codes_beside unbroken (given_at numbers code) ≡ None
    by (inl feed) = ap (codes_beside unbroken) feed.1
    by (inr (inl space)) = ap (codes_beside unbroken) space.1
    by (inr (inr other)) = ap (codes_beside unbroken) other.2 ∙ unless_unbroken (get_or numbers code no)

-- ---- the characters of a vector

pub vector_length : (numbers : List ℕ) → length (vector_characters numbers) ≡ 256
vector_length numbers = own_length (given_characters numbers) ∙ given_length numbers

vector_there : (numbers : List ℕ) (code : ℕ) → code < 256 → get_or (vector_characters numbers) code no ≡ own_at (given_characters numbers) code
vector_there numbers code below = own_there (given_characters numbers) code (omega (arith, given_length numbers))

vector_at_feed : (numbers : List ℕ) → get_or (vector_characters numbers) 10 no ≡ no
vector_at_feed numbers = vector_there numbers 10 (omega arith) ∙ by (own_or_none (given_characters numbers) 10)
  where
    by : OwnOrNone (given_characters numbers) 10
        → own_at (given_characters numbers) 10 ≡ no
    by (inl here) = here.0 ∙ given_there numbers 10 (omega arith) ∙ given_feed numbers
    by (inr none) = none

vector_at_space : (numbers : List ℕ) → get_or (vector_characters numbers) 32 no ≡ 0x20
vector_at_space numbers =
    let space : get_or (given_characters numbers) 32 no ≡ 0x20 = given_there numbers 32 (omega arith) ∙ given_space numbers in
    vector_there numbers 32 (omega arith) ∙ own_if_place (given_characters numbers) 32 (rw space refl) (rw space refl) ∙ space

vector_unbroken : (numbers : List ℕ) (code : ℕ) → code < 256 → codes_beside unbroken (get_or (vector_characters numbers) code no) ≡ None
vector_unbroken numbers code below = ap (codes_beside unbroken) (vector_there numbers code below) ∙ by (own_or_none (given_characters numbers) code)
  where
    by : OwnOrNone (given_characters numbers) code
        → codes_beside unbroken (own_at (given_characters numbers) code) ≡ None
    by (inl here) = ap (codes_beside unbroken) (here.0 ∙ given_there numbers code below) ∙ given_unbroken numbers code
    by (inr none) = ap (codes_beside unbroken) none

-- the codes of a vector are those among its characters
pub of_vector : (vector : Bor VectorValue) (c : ℕ) → codes_of (Vector vector) c ≡ listed_codes (vector_characters vector.now.characters) c
unfolding codes_of
of_vector vector c = refl

-- ---- the laws of a vector

-- the code at which a list has a character, or the one as which this is set
record IsAt (xs : List ℕ) (c : ℕ) (codes : List ℕ) (code : ℕ) : Type 0 where
  within : code < length xs
  same : get_or xs code no ≡ c
  alone : codes ≡ code ∷ []

record IsAsOther (xs : List ℕ) (c : ℕ) (codes : List ℕ) : Type 0 where
  other : ℕ
  code : ℕ
  substitute : substitute_of c ≡ Some other
  at : IsAt xs other codes code

-- the codes of a character: that of the space, none, or one of these
abbrev Cases : List ℕ → ℕ → List ℕ → Type 0
Cases xs c codes = ((code : ℕ) × IsAt xs c codes code) ⊎ (((c ≡ 0xA0) × (codes ≡ 32 ∷ [])) ⊎ (((c ≡ 0xAD) × (codes ≡ [])) ⊎ IsAsOther xs c codes))

fixed_cases : (xs : List ℕ) (c : ℕ) (codes : List ℕ) → codes_beside unbroken c ≡ Some codes → Cases xs c codes
fixed_cases xs c codes found = by (nat_eq 0xA0 c) refl (nat_eq 0xAD c) refl found
  where
    by : (b : Bool) → nat_eq 0xA0 c ≡ b → (q : Bool) → nat_eq 0xAD c ≡ q → cond b (Some (32 ∷ [])) (cond q (Some []) None) ≡ Some codes → Cases xs c codes
    by true same q soft one = inr (inl (sym (eqb-true 0xA0 c same), sym (same_Some _ _ one)))
    by false other true soft one = inr (inr (inl (sym (eqb-true 0xAD c soft), sym (same_Some _ _ one))))
    by false other false soft one = absurd (none-some _ one)

own_case : (xs : List ℕ) (c : ℕ) (codes : List ℕ) → own_code xs c ≡ Some codes → (code : ℕ) × IsAt xs c codes code
own_case xs c codes found = by (position (is c) xs) refl found
  where
    by : (o : Option ℕ) → position (is c) xs ≡ o → option_map (λ code. code ∷ []) o ≡ Some codes → (code : ℕ) × IsAt xs c codes code
    by (Some code) here one =
        let parts = found_is xs c code here in
        (code, record { within = parts.0; same = parts.1; alone = sym (same_Some _ _ one) })
    by None none one = absurd (none-some codes one)

code_cases : (xs : List ℕ) (c : ℕ) (codes : List ℕ) → listed_codes xs c ≡ Some codes → Cases xs c codes
code_cases xs c codes found = by (codes_beside unbroken c) refl (own_code xs c) refl (substitute_of c) refl found
  where
    by : (f : Option (List ℕ)) → codes_beside unbroken c ≡ f → (o : Option (List ℕ)) → own_code xs c ≡ o → (s : Option ℕ) → substitute_of c ≡ s
        → option_or f (option_or o (option_and_then (own_code xs) s)) ≡ Some codes → Cases xs c codes
    by (Some fixed) listed o own s substitute one = fixed_cases xs c codes (listed ∙ one)
    by None unlisted (Some here) own s substitute one = inl (own_case xs c codes (own ∙ one))
    by None unlisted None own (Some other) substitute one =
        let here = own_case xs other codes one in
        inr (inr (inr (record { other = other; code = here.0; substitute = substitute; at = here.1 })))
    by None unlisted None own None substitute one = absurd (none-some codes one)

pub vector_few : (xs : List ℕ) (c : ℕ) (codes : List ℕ) → listed_codes xs c ≡ Some codes → length codes ≤ 1
vector_few xs c codes found = by (code_cases xs c codes found)
  where
    by : Cases xs c codes → length codes ≤ 1
    by (inl here) = omega (arith, ap length here.1.alone)
    by (inr (inl space)) = omega (arith, ap length space.1)
    by (inr (inr (inl soft))) = omega (arith, ap length soft.1)
    by (inr (inr (inr via))) = omega (arith, ap length via.at.alone)

-- a code within the list is a byte
one_byte : (numbers : List ℕ) (c code : ℕ) (codes : List ℕ) → IsAt (vector_characters numbers) c codes code → list_all is_code codes ≡ true
one_byte numbers c code codes here = rw here.alone (rw (lt-ltb code 256 (omega (arith, here.within, vector_length numbers))) refl)

pub vector_bytes : (numbers : List ℕ) (c : ℕ) (codes : List ℕ) → listed_codes (vector_characters numbers) c ≡ Some codes → list_all is_code codes ≡ true
vector_bytes numbers c codes found = by (code_cases (vector_characters numbers) c codes found)
  where
    by : Cases (vector_characters numbers) c codes → list_all is_code codes ≡ true
    by (inl here) = one_byte numbers c here.0 codes here.1
    by (inr (inl space)) = rw space.1 refl
    by (inr (inr (inl soft))) = rw soft.1 refl
    by (inr (inr (inr via))) = one_byte numbers via.other via.code codes via.at

abbrev has : List ℕ → ℕ → Bool
has codes code = list_any (λ each. each == code) codes

only_has : (code number : ℕ) → has (code ∷ []) number ≡ true → code ≡ number
only_has code number any = by (nat_eq code number) refl any
  where
    by : (b : Bool) → nat_eq code number ≡ b → b || false ≡ true → code ≡ number
    by true same any = eqb-true code number same
    by false other any = cc

-- the character at a code is that of a list there
at_code : (xs : List ℕ) (c : ℕ) (codes : List ℕ) (code number : ℕ) → IsAt xs c codes code → has codes number ≡ true → c ≡ get_or xs number no
at_code xs c codes code number here any =
    sym here.same ∙ ap (λ k. get_or xs k no) (only_has code number (subst (λ l. has l number ≡ true) here.alone any))

pub vector_feed : (numbers : List ℕ) (c : ℕ) (codes : List ℕ) → c < no → listed_codes (vector_characters numbers) c ≡ Some codes → has codes 10 ≡ true → c ≡ 10
vector_feed numbers c codes below found ten = by (code_cases (vector_characters numbers) c codes found)
  where
    by : Cases (vector_characters numbers) c codes → c ≡ 10
    by (inl here) =
        let none : c ≡ no = at_code (vector_characters numbers) c codes here.0 10 here.1 ten ∙ vector_at_feed numbers in
        absurd (omega (arith, none))
    by (inr (inl space)) = cc (subst (λ l. has l 10 ≡ true) space.1 ten)
    by (inr (inr (inl soft))) = cc (subst (λ l. has l 10 ≡ true) soft.1 ten)
    by (inr (inr (inr via))) =
        let none : via.other ≡ no = at_code (vector_characters numbers) via.other codes via.code 10 via.at ten ∙ vector_at_feed numbers in
        absurd (omega (arith, none, other_character c via.other via.substitute))

pub vector_space : (numbers : List ℕ) (c : ℕ) (codes : List ℕ) → listed_codes (vector_characters numbers) c ≡ Some codes → has codes 32 ≡ true → (c ≡ 32) ⊎ (c ≡ 0xA0)
vector_space numbers c codes found word = by (code_cases (vector_characters numbers) c codes found)
  where
    by : Cases (vector_characters numbers) c codes → (c ≡ 32) ⊎ (c ≡ 0xA0)
    by (inl here) = inl (at_code (vector_characters numbers) c codes here.0 32 here.1 word ∙ vector_at_space numbers)
    by (inr (inl space)) = inr space.0
    by (inr (inr (inl soft))) = cc (subst (λ l. has l 32 ≡ true) soft.1 word)
    by (inr (inr (inr via))) =
        let space : via.other ≡ 0x20 = at_code (vector_characters numbers) via.other codes via.code 32 via.at word ∙ vector_at_space numbers in
        absurd (cc (ap is_fixed space, other_unfixed c via.other via.substitute))

-- a line feed is one number of a line
pub feed_alone : (vector : Bor VectorValue) → length (numbers_in (Vector vector) 10) ≡ 1
unfolding numbers_in
feed_alone vector = by (codes_of (Vector vector) 10) refl
  where
    here : (c : ℕ) (codes : List ℕ) → c ≡ 10 → Cases (vector_characters vector.now.characters) c codes → length codes ≡ 1
    here c codes ten (inl at) = ap length at.1.alone
    here c codes ten (inr (inl space)) = absurd (omega (arith, ten, space.0))
    here c codes ten (inr (inr (inl soft))) = absurd (omega (arith, ten, soft.0))
    here c codes ten (inr (inr (inr via))) = ap length via.at.alone

    by : (o : Option (List ℕ)) → codes_of (Vector vector) 10 ≡ o → length (option_map_or (set_apart 10) o ((256 + 10) ∷ [])) ≡ 1
    by None none = refl
    by (Some codes) found = here 10 codes refl (code_cases (vector_characters vector.now.characters) 10 codes (sym (of_vector vector 10) ∙ found))

pub vector_comes : (numbers : List ℕ) (code : ℕ) → code < length (vector_characters numbers) → get_or (vector_characters numbers) code no ≢ no
    → listed_codes (vector_characters numbers) (get_or (vector_characters numbers) code no) ≡ Some (code ∷ [])
vector_comes numbers code within some =
    listed_found (vector_characters numbers) _ code
    (vector_unbroken numbers code (omega (arith, vector_length numbers)))
    (found_at (vector_characters numbers) _ code (own_alone (given_characters numbers) code within some) within)

-- ---- encodings that are made of a list

pub filled : (given : List (Option ℕ)) (numbers : List ℕ) → length numbers ≡ 256 → ((k : ℕ) → k < 256 → get_or numbers k 0 ≡ number_at given k) → numbers ≡ numbers_of given
unfolding numbers_of
filled given numbers long each = fill_by_all (number_at given) numbers 256 0 long each

-- a list in which each character is at its lowest code is that of its own characters
own_again : (xs : List ℕ) → own_characters (own_characters xs) ≡ own_characters xs
own_again xs = sym (own_each (own_characters xs) each)
  where
    each : (k : ℕ) → k < length (own_characters xs) → get_or (own_characters xs) k no ≡ own_at (own_characters xs) k
    each k inside = by (nat_eq (get_or (own_characters xs) k no) no) refl (own_or_none (own_characters xs) k)
      where
        within : k < length xs
        within = omega (arith, own_length xs)

        by : (b : Bool) → nat_eq (get_or (own_characters xs) k no) no ≡ b → OwnOrNone (own_characters xs) k → get_or (own_characters xs) k no ≡ own_at (own_characters xs) k
        by b mark (inl here) = sym here.0
        by true mark (inr none) = eqb-true _ no mark ∙ sym none
        by false other (inr none) = sym (own_if_place (own_characters xs) k place (still_plain xs (get_or (own_characters xs) k no) (own_is xs k (get_or (own_characters xs) k no) within refl some).2))
          where
            some : get_or (own_characters xs) k no ≢ no
            some same = cc (eq-eqb (get_or (own_characters xs) k no) no same, other)

            low : nat_eq (lowest (own_characters xs) (get_or (own_characters xs) k no)) k ≡ true
            low = eq-eqb _ _ (own_alone xs k inside some)

            place : is_place (own_characters xs) k ≡ true
            place = here (nat_eq (get_or (own_characters xs) k no) k) refl (is_at_own (own_characters xs) (get_or (own_characters xs) k no)) refl
              where
                here : (s : Bool) → nat_eq (get_or (own_characters xs) k no) k ≡ s → (o : Bool) → is_at_own (own_characters xs) (get_or (own_characters xs) k no) ≡ o
                    → s || (not o && nat_eq (lowest (own_characters xs) (get_or (own_characters xs) k no)) k) ≡ true
                here true same o own = refl
                here false differs false away = low
                here false differs true own =
                    let both = and_parts _ _ own in
                    let there : get_or (own_characters xs) (get_or (own_characters xs) k no) no ≡ get_or (own_characters xs) k no = eqb-true _ _ both.1 in
                    let alone = own_alone xs (get_or (own_characters xs) k no) (ltb-true _ _ both.0) (λ mark. some (sym there ∙ mark)) in
                    let number : get_or (own_characters xs) k no ≡ k = sym alone ∙ ap (lowest (own_characters xs)) there ∙ eqb-true _ _ low in
                    absurd (cc (eq-eqb _ _ number, differs))

unless_twice : (number : ℕ) → unless_fixed (unless_fixed number) ≡ unless_fixed number
unless_twice number = by (scalar number && not (is_fixed number)) refl
  where
    by : (b : Bool) → scalar number && not (is_fixed number) ≡ b → unless_fixed (cond b number no) ≡ cond b number no
    by true kept = ap (λ b. cond b number no) kept
    by false gone = refl

given_again : (numbers : List ℕ) → given_characters (vector_characters numbers) ≡ vector_characters numbers
given_again numbers = sym (given_each (vector_characters numbers) (vector_length numbers) each)
  where
    kept : (k : ℕ) → k ≢ 10 → k ≢ 32
        → OwnOrNone (given_characters numbers) k
        → k < 256 → unless_fixed (own_at (given_characters numbers) k) ≡ own_at (given_characters numbers) k
    kept k not_feed not_space (inl here) below =
        let is : own_at (given_characters numbers) k ≡ unless_fixed (get_or numbers k no) = here.0 ∙ given_there numbers k below ∙ given_else numbers k not_feed not_space in
        ap unless_fixed is ∙ unless_twice (get_or numbers k no) ∙ sym is
    kept k not_feed not_space (inr none) below = ap unless_fixed none ∙ sym none

    each : (k : ℕ) → k < 256 → get_or (vector_characters numbers) k no ≡ given_at (vector_characters numbers) k
    each k below = by (feed_or_other (vector_characters numbers) k)
      where
        by : ((k ≡ 10) × (given_at (vector_characters numbers) k ≡ no)) ⊎ (((k ≡ 32) × (given_at (vector_characters numbers) k ≡ 0x20)) ⊎ ((k ≢ 10) × (k ≢ 32) × (given_at (vector_characters numbers) k ≡ unless_fixed (get_or (vector_characters numbers) k no))))
            → get_or (vector_characters numbers) k no ≡ given_at (vector_characters numbers) k
        by (inl feed) = ap (λ j. get_or (vector_characters numbers) j no) feed.0 ∙ vector_at_feed numbers ∙ sym feed.1
        by (inr (inl space)) = ap (λ j. get_or (vector_characters numbers) j no) space.0 ∙ vector_at_space numbers ∙ sym space.1
        by (inr (inr other)) =
            let there = vector_there numbers k below in
            there ∙ sym (kept k other.0 other.1 (own_or_none (given_characters numbers) k) below) ∙ ap unless_fixed (sym there) ∙ sym other.2

-- the characters of a vector are those of a vector with these characters
pub vector_again : (numbers : List ℕ) → vector_characters (vector_characters numbers) ≡ vector_characters numbers
vector_again numbers = ap own_characters (given_again numbers) ∙ own_again (given_characters numbers)

pub is_again : (numbers xs : List ℕ) → xs ≡ vector_characters numbers → xs ≡ vector_characters xs
is_again numbers xs same = same ∙ sym (vector_again numbers) ∙ ap vector_characters (sym same)

pub ruleset made = (is_again)

pub made_of : (given : List (Option ℕ)) (vector : Bor VectorValue) → vector.now.characters ≡ vector_characters (numbers_of given) → IsMadeOf given (Vector vector)
unfolding characters_of
made_of given vector same =
    let kept : vector_characters vector.now.characters ≡ vector_characters (numbers_of given) = ap vector_characters same ∙ vector_again (numbers_of given) in
    record {
      characters = kept;
      codes = λ c below. of_vector vector c ∙ ap (λ l. listed_codes l c) kept;
    }

-- a code that has a character is its code
pub hinted : (xs : List ℕ) (c code : ℕ) → xs ≡ vector_characters xs → c < 0x110000 → code < 256 → get_or xs code 0 ≡ c → listed_codes (vector_characters xs) c ≡ Some (code ∷ [])
hinted xs c code own character below same =
    let within : code < length xs = omega (arith, ap length own, vector_length xs) in
    let there : get_or (vector_characters xs) code no ≡ c = ap (λ l. get_or l code no) (sym own) ∙ get_or_default xs code no 0 within ∙ same in
    subst (λ x. listed_codes (vector_characters xs) x ≡ Some (code ∷ [])) there
    (vector_comes xs code (omega (arith, below, vector_length xs)) (λ mark. absurd (omega (arith, sym there ∙ mark, character))))

-- the codes in a vector are those among its characters
pub kept_codes : (xs : List ℕ) (c : ℕ) → xs ≡ vector_characters xs → listed_codes (vector_characters xs) c ≡ listed_codes xs c
kept_codes xs c own = ap (λ l. listed_codes l c) (sym own)

pub ruleset hints = (hinted, kept_codes)

-- ---- the lowest code of a character

-- no code before this one has the number
pub record AreBefore (xs : List ℕ) (number code : ℕ) : Type 0 where
  none : (k : ℕ) → k < code → nat_eq (get_or xs k no) number ≡ false

pub none_before : (xs : List ℕ) (number : ℕ) → AreBefore xs number 0
none_before xs number = record { none = λ k below. absurd (omega arith) }

pub before_more : (xs : List ℕ) (number code : ℕ) → AreBefore xs number code → code < length xs → get_or xs code 0 ≢ number → AreBefore xs number (code + 1)
before_more xs number code before within differs = record { none = λ k below. by k below (nat_eq k code) refl }
  where
    by : (k : ℕ) → k < code + 1 → (b : Bool) → nat_eq k code ≡ b → nat_eq (get_or xs k no) number ≡ false
    by k below true same = other_than _ number (λ equal. differs (sym (get_or_default xs code no 0 within) ∙ ap (λ j. get_or xs j no) (sym (eqb-true k code same)) ∙ equal))
    by k below false other = before.none k (grind (arith, nat_tests))

pub number_found : (xs : List ℕ) (number code : ℕ) → AreBefore xs number code → code < length xs → get_or xs code 0 ≡ number → Some code ≡ position (is number) xs
number_found xs number code before within same =
    sym (found_at xs number code (first_at xs number code within before.none (get_or_default xs code no 0 within ∙ same)) within)

pub number_absent : (xs : List ℕ) (number code : ℕ) → AreBefore xs number code → length xs ≤ code → None ≡ position (is number) xs
number_absent xs number code before past =
    let last : lowest xs number ≡ length xs =
    position_or_len_is (is number) xs (length xs) no (omega arith) (λ k lower. before.none k (omega arith)) (λ inside. absurd (omega arith)) in
    sym (none_at xs number (omega (arith, last)))

pub ruleset searched = (none_before, before_more, number_found, number_absent)

-- ---- the codes of a character

pub code_found : (xs : List ℕ) (c code : ℕ) → codes_beside unbroken c ≡ None → Some code ≡ position (is c) xs → listed_codes xs c ≡ Some (code ∷ [])
code_found xs c code fixed found = listed_found xs c code fixed (sym found)

pub as_none : (xs : List ℕ) (c : ℕ) → codes_beside unbroken c ≡ None → None ≡ position (is c) xs → None ≡ substitute_of c → listed_codes xs c ≡ None
as_none xs c fixed none without = listed_as xs c fixed (sym none) ∙ ap (option_and_then (own_code xs)) (sym without)

-- a character that is set as another one
pub as_another : (xs : List ℕ) (c other : ℕ) (o : Option ℕ) → codes_beside unbroken c ≡ None → None ≡ position (is c) xs → Some other ≡ substitute_of c → o ≡ position (is other) xs
    → MatchOption o (listed_codes xs c ≡ None) (λ code. listed_codes xs c ≡ Some (code ∷ []))
as_another xs c other o fixed none found there = by o (listed_as xs c fixed (sym none) ∙ ap (option_and_then (own_code xs)) (sym found) ∙ ap (option_map (λ (code : ℕ). code ∷ [])) (sym there))
  where
    by : (p : Option ℕ) → listed_codes xs c ≡ option_map (λ code. code ∷ []) p → MatchOption p (listed_codes xs c ≡ None) (λ code. listed_codes xs c ≡ Some (code ∷ []))
    by (Some code) are = are
    by None are = are

pub ruleset coded = (code_found, as_none)

-- ---- the characters of a vector as they are made

-- a number that is made a character, if it is one
pub unless_kept : (number made : ℕ) (o : Option ℕ) → SomeIff o (IsScalar number) number → o ≡ Some made → is_fixed made ≡ false → number ≡ unless_fixed number
unless_kept number made (Some c) is_made here other =
    let same : number ≡ made = sym is_made.1 ∙ same_Some _ _ here in
    rw (is_made.0, ap is_fixed same ∙ other) refl
unless_kept number made None is_made here other = absurd (none-some made here)

pub unless_fixed_one : (number made : ℕ) (o : Option ℕ) → SomeIff o (IsScalar number) number → o ≡ Some made → is_fixed made ≡ true → no ≡ unless_fixed number
unless_fixed_one number made (Some c) is_made here fixed =
    let same : number ≡ made = sym is_made.1 ∙ same_Some _ _ here in
    rw (is_made.0, ap is_fixed same ∙ fixed) refl
unless_fixed_one number made None is_made here fixed = absurd (none-some made here)

pub unless_none : (number : ℕ) (o : Option ℕ) → SomeIff o (IsScalar number) number → o ≡ None → no ≡ unless_fixed number
unless_none number (Some c) is_made here = absurd (none-some c (sym here))
unless_none number None is_made here = by (scalar number) refl
  where
    by : (b : Bool) → scalar number ≡ b → no ≡ unless_fixed number
    by true character = absurd (is_made character)
    by false outside = rw outside refl

pub ruleset unless = (unless_kept, unless_fixed_one, unless_none)

pub given_filled : (numbers given : List ℕ) → length given ≡ 256 → ((k : ℕ) → k < 256 → get_or given k 0 ≡ given_at numbers k) → given ≡ given_characters numbers
unfolding given_characters
given_filled numbers given long each = fill_by_all (given_at numbers) given 256 0 long each

pub own_kept : (xs : List ℕ) (code number : ℕ) → code < length xs → number ≡ get_or xs code 0 → is_place xs code ≡ true → is_quoted xs number ≡ false → number ≡ own_at xs code
own_kept xs code number within here place plain =
    let there : number ≡ get_or xs code no = here ∙ sym (get_or_default xs code no 0 within) in
    there ∙ sym (own_if_place xs code place (ap (is_quoted xs) (sym there) ∙ plain))

pub own_gone : (xs : List ℕ) (code : ℕ) → is_place xs code ≡ false → no ≡ own_at xs code
own_gone xs code other = rw other refl

pub own_quoted : (xs : List ℕ) (code number : ℕ) → code < length xs → number ≡ get_or xs code 0 → is_quoted xs number ≡ true → no ≡ own_at xs code
own_quoted xs code number within here quoted =
    let there : number ≡ get_or xs code no = here ∙ sym (get_or_default xs code no 0 within) in
    by (is_place xs code) (ap (is_quoted xs) (sym there) ∙ quoted)
  where
    by : (b : Bool) → is_quoted xs (get_or xs code no) ≡ true → no ≡ cond (b && not (is_quoted xs (get_or xs code no))) (get_or xs code no) no
    by true is = rw is refl
    by false is = refl

pub ruleset own = (own_kept, own_gone, own_quoted)

-- whether a code sets its character
pub place_self : (xs : List ℕ) (code number : ℕ) → code < length xs → number ≡ get_or xs code 0 → number ≡ code → is_place xs code ≡ true
place_self xs code number within here same =
    let there : get_or xs code no ≡ code = get_or_default xs code no 0 within ∙ sym here ∙ same in rw (eq-eqb _ _ there) refl

place_other : (xs : List ℕ) (code number : ℕ) → code < length xs → number ≡ get_or xs code 0 → number ≢ code
    → is_place xs code ≡ (not (is_at_own xs number) && nat_eq (lowest xs number) code)
place_other xs code number within here differs =
    let there : get_or xs code no ≡ number = get_or_default xs code no 0 within ∙ sym here in rw (there, other_than number code differs) refl

pub place_elsewhere : (xs : List ℕ) (code number : ℕ) → code < length xs → number ≡ get_or xs code 0 → number ≢ code → is_at_own xs number ≡ true → is_place xs code ≡ false
place_elsewhere xs code number within here differs own = place_other xs code number within here differs ∙ rw own refl

pub place_low : (xs : List ℕ) (code number low : ℕ) → code < length xs → number ≡ get_or xs code 0 → number ≢ code → is_at_own xs number ≡ false
    → Some low ≡ position (is number) xs → nat_eq low code ≡ is_place xs code
place_low xs code number low within here differs away found =
    sym (place_other xs code number within here differs ∙ rw away (ap (λ n. nat_eq n code) (found_is xs number low (sym found)).2))

pub place_none : (xs : List ℕ) (code number : ℕ) → code < length xs → number ≡ get_or xs code 0 → None ≡ position (is number) xs → is_place xs code ≡ false
place_none xs code number within here none =
    let past = none_found xs number (sym none) in
    let there : nat_eq (get_or xs code no) number ≡ true = eq-eqb _ _ (get_or_default xs code no 0 within ∙ sym here) in
    absurd (cc (there, fails_before_first (is number) xs code no (omega (arith, past, within))))

pub ruleset places = (place_self, place_elsewhere, place_low, place_none)

pub own_filled : (xs own : List ℕ) → length xs ≡ 256 → length own ≡ 256 → ((k : ℕ) → k < 256 → get_or own k 0 ≡ own_at xs k) → own ≡ own_characters xs
unfolding own_characters
own_filled xs own long length_is each = fill_by_all (own_at xs) own (length xs) 0 (length_is ∙ sym long) (λ k below. each k (omega (arith, long)))

-- ---- the character at a code

unless_listed : (number : ℕ) → nat_eq (unless_fixed number) no || scalar (unless_fixed number) ≡ true
unless_listed number = by (scalar number) refl (is_fixed number)
  where
    by : (s : Bool) → scalar number ≡ s → (q : Bool) → nat_eq (cond (s && not q) number no) no || scalar (cond (s && not q) number no) ≡ true
    by true character true = refl
    by true character false = either (nat_eq number no) character
      where
        either : (b : Bool) → scalar number ≡ true → b || scalar number ≡ true
        either true character = refl
        either false character = character
    by false outside q = refl

-- the number at a code of a vector is that of a character, or marks a code without one
pub vector_listed : (numbers : List ℕ) (code : ℕ) → code < 256 → nat_eq (get_or (vector_characters numbers) code no) no || scalar (get_or (vector_characters numbers) code no) ≡ true
vector_listed numbers code below = subst (λ n. nat_eq n no || scalar n ≡ true) (sym (vector_there numbers code below)) (by (own_or_none (given_characters numbers) code))
  where
    given : nat_eq (given_at numbers code) no || scalar (given_at numbers code) ≡ true
    given = here (feed_or_other numbers code)
      where
        here : ((code ≡ 10) × (given_at numbers code ≡ no)) ⊎ (((code ≡ 32) × (given_at numbers code ≡ 0x20)) ⊎ ((code ≢ 10) × (code ≢ 32) × (given_at numbers code ≡ unless_fixed (get_or numbers code no))))
            → nat_eq (given_at numbers code) no || scalar (given_at numbers code) ≡ true
        here (inl feed) = rw feed.1 refl
        here (inr (inl space)) = rw space.1 refl
        here (inr (inr other)) = rw other.2 (unless_listed (get_or numbers code no))

    by : OwnOrNone (given_characters numbers) code
        → nat_eq (own_at (given_characters numbers) code) no || scalar (own_at (given_characters numbers) code) ≡ true
    by (inl same) = subst (λ n. nat_eq n no || scalar n ≡ true) (sym (same.0 ∙ given_there numbers code below)) given
    by (inr none) = rw none refl
