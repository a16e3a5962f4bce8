-- The laws of the tables. What they state of single characters is computed for every character that has codes.
use Rattle.std.proofs.Common.{◌≡◌, ◌⊎◌, inl, inr, ℕ, suc, ◌+◌, ◌<◌, ◌≤◌, Bool, true, false, List, [], ◌∷◌, ◌++◌, ◌&&◌, ◌||◌, not, length, length-append, map, flat_map, Option, Some, None, Bor, arith, refl, ap, sym, subst, ◌∙◌}
use Rattle.std.specs.Prelude.{◌==◌, nat_eq, nat_le, cond}
use Rattle.std.specs.Char.{encode_utf8, is_ascii_alphanumeric, len_utf8}
use Rattle.std.specs.Str.{chars, encode_utf8_all, IsUtf8}
use Rattle.std.specs.List.{list_all, list_any, range_with_len, position_or_len}
use Rattle.std.specs.Option.{is_some, option_map_or}
use Rattle.std.proofs.lemmas.Bool.Decides.{nat_tests}
use Rattle.std.proofs.lemmas.Bool.{eqb-true, leb-true}
use Rattle.std.proofs.lemmas.Option.{same_Some}
use Rattle.std.proofs.lemmas.List.Folds.{list_any-append}
use Rattle.std.proofs.lemmas.Str.{encodes-chars, len_utf8_bounds, length-encode}
use Rattle.std.proofs.lemmas.List.Sums.{passes_at_first}
use Rattle.encodings.specs.declared.encoding.Encoding.{Encoding}
use Rattle.encodings.specs.declared.encoding.Encoding.TheVariants.{Ot1, T1, Ly1, Latin1, Vector}
use Rattle.encodings.specs.declared.vector.Vector.{Vector as VectorValue}
use Rattle.encodings.specs.Tables.{no, ot1_characters, t1_characters, ly1_characters, shared_others, ot1_others, t1_others, ly1_others}
use Rattle.encodings.specs.Codes.{codes_of, codes_beside, characters_of, others_of}
use Rattle.encodings.specs.Lookup.{is_table}
use Rattle.encodings.specs.Names.{encoding_named, name_of}
use Rattle.encodings.specs.Vectors.{vector_characters}
use Rattle.encodings.specs.Lines.{break_number, is_code, numbers_of, places_from, places_of, set_apart, without_mark}
use Rattle.encodings.specs.Laws.{character_at, AreBytes, IsOwn, ComesFromItsCharacter, text_codes, characters_at, ComesBack, IsItself, LosesOthers, KeepsFeed, KeepsSpace, HasFewCodes}
use Rattle.encodings.proofs.PlaceLemmas.{characters_from, characters_in}
use Rattle.encodings.proofs.TableLemmas.{at_member, by_table, in_range, no_row, no_own_code, neither, of_table, same, same_is}
use Rattle.encodings.proofs.VectorLemmas.{of_vector, vector_bytes, vector_comes, vector_feed, vector_few, vector_space}

-- ---- characters that have codes are in the tables

-- the characters in the tables
abbrev keys : Encoding → List ℕ
keys encoding = map (λ row. row.0) (others_of encoding) ++ characters_of encoding

no_codes : (encoding : Encoding) (c : ℕ) → is_table encoding ≡ true → list_any (λ x. nat_eq x c) (keys encoding) ≡ false → codes_of encoding c ≡ None
no_codes encoding c table none =
    let parts = neither _ _ (sym (list_any-append (λ x. nat_eq x c) (map (λ (row : ℕ × List ℕ). row.0) (others_of encoding)) (characters_of encoding)) ∙ none) in
    of_table encoding c table ∙ rw (no_row (others_of encoding) c parts.0, no_own_code (characters_of encoding) c parts.1) refl

-- what holds of each character in the tables holds of each character that has codes
of_keys : (encoding : Encoding) (p : ℕ → Bool) (c : ℕ) (codes : List ℕ) → is_table encoding ≡ true → list_all p (keys encoding) ≡ true → codes_of encoding c ≡ Some codes → p c ≡ true
of_keys encoding p c codes table all is = by (list_any (λ x. nat_eq x c) (keys encoding)) refl
  where
    by : (b : Bool) → list_any (λ x. nat_eq x c) (keys encoding) ≡ b → p c ≡ true
    by true member = at_member p c (keys encoding) all member
    by false member = cc (no_codes encoding c table member)

-- ---- few codes

abbrev few_at : Encoding → ℕ → Bool
few_at encoding c = option_map_or (λ codes. nat_le (length (set_apart c codes)) (len_utf8 c)) (codes_of encoding c) true

few : (encoding : Encoding) → is_table encoding ≡ true → list_all (few_at encoding) (keys encoding) ≡ true
unfolding codes_of characters_of others_of ot1_characters t1_characters ly1_characters shared_others ot1_others t1_others ly1_others
few Ot1 table = refl
few T1 table = refl
few Ly1 table = refl
few Latin1 table = refl
few (Vector vector) table = cc

other_than : (c : ℕ) → c < no → (b : Bool) → nat_eq c no || b ≡ true → b ≡ true
other_than c below b is = by (nat_eq c no) refl is
  where
    by : (q : Bool) → nat_eq c no ≡ q → q || b ≡ true → b ≡ true
    by true same at = absurd (omega (arith, eqb-true c no same))
    by false same at = at

few_in_table : (encoding : Encoding) (c : ℕ) (codes : List ℕ) → is_table encoding ≡ true → HasFewCodes encoding c codes
few_in_table encoding c codes table is =
    let at = of_keys encoding (few_at encoding) c codes table (few encoding table) is in
    leb-true (length (set_apart c codes)) (len_utf8 c) (rw is at at)

few_in_vector : (vector : Bor VectorValue) (c : ℕ) (codes : List ℕ) → HasFewCodes (Vector vector) c codes
few_in_vector vector c codes is = by (nat_eq c 0xAD) refl (nat_eq c 0x2011) refl
  where
    few : length codes ≤ 1
    few = vector_few (vector_characters vector.now.characters) c codes (sym (of_vector vector c) ∙ is)

    by : (s : Bool) → nat_eq c 0xAD ≡ s → (h : Bool) → nat_eq c 0x2011 ≡ h → length (cond (s || h) (break_number ∷ codes ++ break_number ∷ []) codes) ≤ len_utf8 c
    by true soft h same =
        let none : codes ≡ [] = same_Some _ _ (sym is ∙ ap (codes_of (Vector vector)) (eqb-true c 0xAD soft) ∙ of_vector vector 0xAD) in
        omega (arith, ap length none, length-append codes (break_number ∷ []), ap len_utf8 (eqb-true c 0xAD soft))
    by false other true hyphen = omega (arith, few, length-append codes (break_number ∷ []), ap len_utf8 (eqb-true c 0x2011 hyphen))
    by false other false another = omega (arith, few, (len_utf8_bounds c).0)

-- Law: a character has at most as many codes and breaks as it has bytes in UTF-8
pub few_codes : (encoding : Encoding) (c : ℕ) (codes : List ℕ) → HasFewCodes encoding c codes
few_codes encoding c codes = by_table (λ e. HasFewCodes e c codes) (λ e table. few_in_table e c codes table) (λ vector. few_in_vector vector c codes) encoding

-- ---- codes are bytes

abbrev bytes_at : Encoding → ℕ → Bool
bytes_at encoding c = option_map_or (list_all is_code) (codes_of encoding c) true

bytes : (encoding : Encoding) → is_table encoding ≡ true → list_all (bytes_at encoding) (keys encoding) ≡ true
unfolding codes_of characters_of others_of ot1_characters t1_characters ly1_characters shared_others ot1_others t1_others ly1_others
bytes Ot1 table = refl
bytes T1 table = refl
bytes Ly1 table = refl
bytes Latin1 table = refl
bytes (Vector vector) table = cc

bytes_in_table : (encoding : Encoding) (c : ℕ) (codes : List ℕ) → is_table encoding ≡ true → AreBytes encoding c codes
bytes_in_table encoding c codes table is =
    let at = of_keys encoding (bytes_at encoding) c codes table (bytes encoding table) is in rw is at at

-- Law: each code is a byte
pub codes_are_bytes : (encoding : Encoding) (c : ℕ) (codes : List ℕ) → AreBytes encoding c codes
codes_are_bytes encoding c codes = by_table (λ e. AreBytes e c codes) (λ e table. bytes_in_table e c codes table)
    (λ vector is. vector_bytes vector.now.characters c codes (sym (of_vector vector c) ∙ is)) encoding

-- the soft hyphen always has codes
pub soft_coded : (encoding : Encoding) → codes_of encoding 0xAD ≡ Some []
unfolding codes_of characters_of others_of ot1_characters t1_characters ly1_characters shared_others ot1_others t1_others ly1_others
soft_coded Ot1 = refl
soft_coded T1 = refl
soft_coded Ly1 = refl
soft_coded Latin1 = refl
soft_coded (Vector vector) = refl

-- ---- the line feed and the space

abbrev has : List ℕ → ℕ → Bool
has codes code = list_any (λ each. each == code) codes

abbrev reserved_of : ℕ → List ℕ → Bool
reserved_of c codes = (not (has codes 10) || nat_eq c 10) && (not (has codes 32) || (nat_eq c 32 || nat_eq c 0xA0))

abbrev reserved_at : Encoding → ℕ → Bool
reserved_at encoding c = nat_eq c no || option_map_or (reserved_of c) (codes_of encoding c) true

reserved : (encoding : Encoding) → is_table encoding ≡ true → list_all (reserved_at encoding) (keys encoding) ≡ true
unfolding codes_of characters_of others_of ot1_characters t1_characters ly1_characters shared_others ot1_others t1_others ly1_others
reserved Ot1 table = refl
reserved T1 table = refl
reserved Ly1 table = refl
reserved Latin1 table = refl
reserved (Vector vector) table = cc

feed_kept : (h b more : Bool) → (not h || b) && more ≡ true → h ≡ true → b ≡ true
feed_kept true true more is at = refl
feed_kept true false more is at = cc
feed_kept false b more is at = cc

space_kept : (h s n more : Bool) → more && (not h || (s || n)) ≡ true → h ≡ true → (s ≡ true) ⊎ (n ≡ true)
space_kept true true n more is at = inl refl
space_kept true false true more is at = inr refl
space_kept true false false true is at = cc
space_kept true false false false is at = cc
space_kept false s n more is at = cc

reserved_here : (encoding : Encoding) (c : ℕ) (codes : List ℕ) → is_table encoding ≡ true → c < no → codes_of encoding c ≡ Some codes → reserved_of c codes ≡ true
reserved_here encoding c codes table below is =
    let at = other_than c below _ (of_keys encoding (reserved_at encoding) c codes table (reserved encoding table) is) in rw is at at

feed_in_table : (encoding : Encoding) (c : ℕ) (codes : List ℕ) → is_table encoding ≡ true → KeepsFeed encoding c codes
feed_in_table encoding c codes table below is ten = eqb-true c 10 (feed_kept _ _ _ (reserved_here encoding c codes table below is) ten)

feed_in_vector : (vector : Bor VectorValue) (c : ℕ) (codes : List ℕ) → KeepsFeed (Vector vector) c codes
feed_in_vector vector c codes below is ten = vector_feed vector.now.characters c codes below (sym (of_vector vector c) ∙ is) ten

-- Law: only the line feed has code 10
pub feed_code : (encoding : Encoding) (c : ℕ) (codes : List ℕ) → KeepsFeed encoding c codes
feed_code encoding c codes = by_table (λ e. KeepsFeed e c codes) (λ e table. feed_in_table e c codes table) (λ vector. feed_in_vector vector c codes) encoding

space_in_table : (encoding : Encoding) (c : ℕ) (codes : List ℕ) → is_table encoding ≡ true → KeepsSpace encoding c codes
space_in_table encoding c codes table below is space =
    elim (space_kept _ _ _ _ (reserved_here encoding c codes table below is) space) [ inl s ↦ inl (eqb-true c 32 s) | inr n ↦ inr (eqb-true c 0xA0 n) ]

space_in_vector : (vector : Bor VectorValue) (c : ℕ) (codes : List ℕ) → KeepsSpace (Vector vector) c codes
space_in_vector vector c codes below is space = vector_space vector.now.characters c codes (sym (of_vector vector c) ∙ is) space

-- Law: only the space and the no-break space have code 32
pub space_code : (encoding : Encoding) (c : ℕ) (codes : List ℕ) → KeepsSpace encoding c codes
space_code encoding c codes = by_table (λ e. KeepsSpace e c codes) (λ e table. space_in_table e c codes table) (λ vector. space_in_vector vector c codes) encoding

-- ---- ASCII letters and digits

alphanumeric_below : (c : ℕ) → is_ascii_alphanumeric c ≡ true → c < 128
alphanumeric_below c is = grind (arith, nat_tests)

abbrev itself_at : Encoding → ℕ → Bool
itself_at encoding c = not (is_ascii_alphanumeric c) || same (codes_of encoding c) (Some (c ∷ []))

itself : (encoding : Encoding) → encoding_named (name_of encoding) ≡ Some encoding → list_all (itself_at encoding) (range_with_len 0 128) ≡ true
unfolding codes_of characters_of others_of ot1_characters t1_characters ly1_characters shared_others ot1_others t1_others ly1_others
itself Ot1 named = refl
itself T1 named = refl
itself Ly1 named = refl
itself Latin1 named = refl
itself (Vector vector) named = cc

-- Law: in an encoding that has a name, an ASCII letter or digit is its own code
pub is_itself : (encoding : Encoding) (c : ℕ) → IsItself encoding c
is_itself encoding c named is =
    let at = at_member (itself_at encoding) c (range_with_len 0 128) (itself encoding named) (in_range c 0 128 (omega arith) (alphanumeric_below c is)) in
    same_is _ _ (rw is at at)

-- ---- codes and their characters

-- the code of a character that is at this code, and isn't listed with other codes
own_at : Encoding → ℕ → ℕ → Bool
own_at encoding c code = nat_eq c no || (is_some (codes_beside (others_of encoding) c) || same (codes_of encoding c) (Some (code ∷ [])))

owns : (encoding : Encoding) → is_table encoding ≡ true → list_all (λ code. own_at encoding (character_at encoding code) code) (range_with_len 0 (length (characters_of encoding))) ≡ true
unfolding own_at codes_of characters_of others_of ot1_characters t1_characters ly1_characters shared_others ot1_others t1_others ly1_others
owns Ot1 table = refl
owns T1 table = refl
owns Ly1 table = refl
owns Latin1 table = refl
owns (Vector vector) table = cc

comes_from_table : (encoding : Encoding) (code : ℕ) → is_table encoding ≡ true → ComesFromItsCharacter encoding code
unfolding own_at
comes_from_table encoding code table within own =
    let at = at_member (λ k. own_at encoding (character_at encoding k) k) code (range_with_len 0 (length (characters_of encoding))) (owns encoding table) (in_range code 0 (length (characters_of encoding)) (omega arith) (omega arith)) in
    here (nat_eq (character_at encoding code) no) refl at
  where
    here : (b : Bool) → nat_eq (character_at encoding code) no ≡ b → b || (is_some (codes_beside (others_of encoding) (character_at encoding code)) || same (codes_of encoding (character_at encoding code)) (Some (code ∷ []))) ≡ true
        → codes_of encoding (character_at encoding code) ≡ Some (code ∷ [])
    here true equal at = absurd (own.is_character (eqb-true _ _ equal))
    here false other at = same_is _ _ (rw own.not_other at at)

comes_from_vector : (vector : Bor VectorValue) (code : ℕ) → ComesFromItsCharacter (Vector vector) code
unfolding characters_of
comes_from_vector vector code within own =
    of_vector vector (character_at (Vector vector) code) ∙ vector_comes vector.now.characters code within own.is_character

-- Law: each code of a table or of a vector comes from the character at this code
pub comes_from : (encoding : Encoding) (code : ℕ) → ComesFromItsCharacter encoding code
comes_from encoding code = by_table (λ e. ComesFromItsCharacter e code) (λ e table. comes_from_table e code table) (λ vector. comes_from_vector vector code) encoding

found_before : (p : ℕ → Bool) (xs : List ℕ) → list_any p xs ≡ true → position_or_len p xs < length xs
found_before p [] any = cc
found_before p (x ∷ xs) any = by (found_before p xs) (p x) any
  where
    by : (list_any p xs ≡ true → position_or_len p xs < length xs) → (b : Bool) → b || list_any p xs ≡ true → cond (not b) (1 + position_or_len p xs) 0 < suc (length xs)
    by rest true any = omega arith
    by rest false any = omega (arith, rest any)

-- a character that is set by its own code, with this code
own_code_is : (encoding : Encoding) (c : ℕ) → IsOwn encoding c → (code : ℕ) × (codes_of encoding c ≡ Some (code ∷ [])) × (character_at encoding code ≡ c)
own_code_is encoding c own =
    let p = λ (each : ℕ). nat_eq each c in
    let at = position_or_len p (characters_of encoding) in
    let within : at < length (characters_of encoding) = found_before p (characters_of encoding) own.at_code in
    let same : character_at encoding at ≡ c = eqb-true _ _ (passes_at_first p (characters_of encoding) no within) in
    (at, subst (λ x. IsOwn encoding x → codes_of encoding x ≡ Some (at ∷ [])) same (comes_from encoding at within) own, same)

one_back : (encoding : Encoding) (c code : ℕ) (text : List ℕ) → codes_of encoding c ≡ Some (code ∷ []) → character_at encoding code ≡ c
    → characters_at encoding (text_codes encoding text) ≡ text → characters_at encoding (text_codes encoding (c ∷ text)) ≡ c ∷ text
one_back encoding c code text codes at rest = rw codes (rw at (rw rest refl))

-- Law: a text of characters that are set by their own codes comes back if it is encoded and decoded
pub comes_back : (encoding : Encoding) (text : List ℕ) → ComesBack encoding text
comes_back encoding [] all = refl
comes_back encoding (c ∷ text) all =
    let own = own_code_is encoding c (all 0 c (omega arith)) in
    one_back encoding c own.0 text own.1 own.2 (comes_back encoding text (λ k d h. all (suc k) d (omega arith)))

-- Law: in an encoding that has a name, the characters that are listed with other codes don't come back
pub loses_others : (encoding : Encoding) → LosesOthers encoding
unfolding characters_of others_of ot1_characters t1_characters ly1_characters shared_others ot1_others t1_others ly1_others
loses_others Ot1 named = refl
loses_others T1 named = refl
loses_others Ly1 named = refl
loses_others Latin1 named = refl
loses_others (Vector vector) named = cc

-- ---- the number of numbers

numbers_few : (encoding : Encoding) (c : ℕ) → length (numbers_of encoding c) ≤ len_utf8 c
unfolding numbers_of
numbers_few encoding c = by (codes_of encoding c) refl
  where
    by : (o : Option (List ℕ)) → codes_of encoding c ≡ o → length (option_map_or (set_apart c) o ((256 + c) ∷ [])) ≤ len_utf8 c
    by None is = (len_utf8_bounds c).0
    by (Some codes) is = few_codes encoding c codes is

text_few : (encoding : Encoding) (cs : List ℕ) → length (flat_map (numbers_of encoding) cs) ≤ length (encode_utf8_all cs)
text_few encoding [] = omega arith
text_few encoding (c ∷ cs) =
    omega (arith, length-append (numbers_of encoding c) (flat_map (numbers_of encoding) cs), length-append (encode_utf8 c) (encode_utf8_all cs), length-encode c, numbers_few encoding c, text_few encoding cs)

unmarked_few : (first : Bool) (cs : List ℕ) → length (encode_utf8_all (characters_in (without_mark first (places_from 0 cs)))) ≤ length (encode_utf8_all cs)
unmarked_few first [] = omega arith
unmarked_few first (c ∷ cs) = by (first && nat_eq c 0xFEFF)
  where
    by : (b : Bool) → length (encode_utf8_all (characters_in (cond b (places_from (0 + len_utf8 c) cs) (places_from 0 (c ∷ cs))))) ≤ length (encode_utf8_all (c ∷ cs))
    by true = omega (arith, ap (λ l. length (encode_utf8_all l)) (characters_from (0 + len_utf8 c) cs), length-append (encode_utf8 c) (encode_utf8_all cs))
    by false = omega (arith, ap (λ l. length (encode_utf8_all l)) (characters_from 0 (c ∷ cs)))

-- a line in UTF-8 has at most as many numbers as bytes
pub places_few : (encoding : Encoding) (first : Bool) (line : List ℕ) → IsUtf8 line → length (flat_map (numbers_of encoding) (characters_in (places_of first line))) ≤ length line
unfolding places_of
places_few encoding first line utf8 =
    let whole : length (encode_utf8_all (chars line)) ≡ length line = ap length (encodes-chars line utf8) in
    omega (arith, whole, text_few encoding (characters_in (without_mark first (places_from 0 (chars line)))), unmarked_few first (chars line))
