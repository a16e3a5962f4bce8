-- The codes of a text, and characters at its front that are taken together.
use Rattle.std.proofs.Common.{◌≡◌, ℕ, zero, suc, ◌+◌, ◌^◌, ◌<◌, ◌≤◌, Bool, true, false, List, [], ◌∷◌, ◌++◌, ◌&&◌, ◌||◌, cond, nat_eq, length, length-append, get_or, take, drop, map, flat_map, Option, Some, None, arith, refl, ap, sym, subst, ◌∙◌}
use Rattle.std.specs.List.{list_all}
use Rattle.std.specs.Option.{is_none, option_map_or, unwrap_or}
use Rattle.std.specs.Str.{chars, IsAscii, IsCharBoundary, IsUtf8}
use Rattle.std.proofs.Math.Seq.{take-add}
use Rattle.std.proofs.lemmas.Bool.{and_parts, eqb-true}
use Rattle.std.proofs.lemmas.List.{length-take-le, take-append-drop}
use Rattle.std.proofs.lemmas.List.Folds.{list_all-append}
use Rattle.std.proofs.lemmas.Str.{IsCharBoundary-from_take, IsUtf8-from_ascii, chars-IsAscii, chars-append, len_utf8_ascii}
use Rattle.encodings.specs.declared.encoding.Encoding.{Encoding}
use Rattle.encodings.specs.declared.encoding.Encoding.TheVariants.{Ot1, T1, Ly1, Latin1, Vector}
use Rattle.encodings.specs.declared.places.Place.{Place}
use Rattle.encodings.specs.Codes.{characters_of, codes_of, is_apart, others_of}
use Rattle.encodings.specs.Decoding.{is_plain}
use Rattle.encodings.specs.Lines.{break_number, numbers_of, places_from, places_of, set_apart}
use Rattle.encodings.specs.Lookup.{singles_in}
use Rattle.encodings.specs.Tables.{ot1_characters, t1_characters, ly1_characters, shared_others, ot1_others, t1_others, ly1_others}
use Rattle.encodings.specs.Texts.{IsKeptFront, codes_at, codes_there, is_kept, offsets_at, text_codes, uncoded_at}
use Rattle.encodings.proofs.DecodingLemmas.{plain_below}
use Rattle.encodings.proofs.LawLemmas.{places_few}
use Rattle.encodings.proofs.PlaceLemmas.{characters_in}
use Rattle.encodings.proofs.TableLemmas.{index_low, single_is}
use Rattle.encodings.proofs.VectorLemmas.{feed_alone}

-- ---- bytes that are kept

-- four more
pub four_more : (p : ℕ → Bool) (text : List ℕ) (n : ℕ) → list_all p (take n text) ≡ true → list_all p (take 4 (drop n text)) ≡ true → list_all p (take (n + 4) text) ≡ true
four_more p text n here next = ap (list_all p) (take-add n 4 text) ∙ list_all-append p (take n text) (take 4 (drop n text)) ∙ rw (here, next) refl

pub ruleset fours = four_more

kept_below : (singles : List ℕ) (byte : ℕ) → is_kept singles byte ≡ true → byte < 128
kept_below singles byte kept = by (is_plain singles byte) refl kept
  where
    by : (b : Bool) → is_plain singles byte ≡ b → b || (nat_eq (get_or singles byte 0) 256 && nat_eq byte 10) ≡ true → byte < 128
    by true is kept = plain_below singles byte is
    by false is kept = omega (arith, eqb-true byte 10 (and_parts _ _ kept).1)

-- such a byte is its own code
kept_codes : (encoding : Encoding) (byte : ℕ) → is_kept (singles_in encoding) byte ≡ true → text_codes encoding byte ≡ Some (byte ∷ [])
kept_codes encoding byte kept = by (nat_eq byte 10) refl
  where
    plain : (b : Bool) → nat_eq byte 10 ≡ false → is_plain (singles_in encoding) byte ≡ b → b || (nat_eq (get_or (singles_in encoding) byte 0) 256 && nat_eq byte 10) ≡ true → codes_of encoding byte ≡ Some (byte ∷ [])
    plain false other is kept = cc ((and_parts (nat_eq (get_or (singles_in encoding) byte 0) 256) (nat_eq byte 10) kept).1, other)
    plain true other is kept =
        let below = plain_below (singles_in encoding) byte is in
        single_is encoding byte byte (omega (arith, below))
        (ap (λ i. get_or (singles_in encoding) i 256) (index_low byte (omega (arith, below))) ∙ eqb-true _ _ (and_parts _ _ is).1) (omega (arith, below))

    by : (b : Bool) → nat_eq byte 10 ≡ b → cond b (Some (10 ∷ [])) (codes_of encoding byte) ≡ Some (byte ∷ [])
    by true is = ap (λ c. Some (c ∷ [])) (sym (eqb-true byte 10 is))
    by false is = plain (is_plain (singles_in encoding) byte) is refl kept

kept_ascii : (singles bytes : List ℕ) → list_all (is_kept singles) bytes ≡ true → IsAscii bytes
kept_ascii singles [] all i = omega arith
kept_ascii singles (byte ∷ bytes) all zero = kept_below singles byte (and_parts _ _ all).0
kept_ascii singles (byte ∷ bytes) all (suc i) = kept_ascii singles bytes (and_parts _ _ all).1 i

-- one more, before others
kept_one : (encoding : Encoding) (offset byte : ℕ) (bytes : List ℕ) (places left : List Place) → text_codes encoding byte ≡ Some (byte ∷ [])
    → IsKeptFront encoding (offset + 1) bytes places left → IsKeptFront encoding offset (byte ∷ bytes) (record { offset = offset; character = byte } ∷ places) left
kept_one encoding offset byte bytes places left code rest = record {
  codes = ap (λ o. unwrap_or o [] ++ codes_at encoding places) code ∙ ap (λ l. byte ∷ l) rest.codes;
  offsets = ap (λ o. map (λ _. offset) (unwrap_or o []) ++ offsets_at encoding places) code ∙ ap (λ l. offset ∷ l) rest.offsets;
  uncoded = ap (λ o. cond (is_none o) (record { offset = offset; character = byte } ∷ uncoded_at encoding places) (uncoded_at encoding places)) code ∙ rest.uncoded;
  fewer = omega (arith, rest.fewer);
  small = omega (arith, rest.small);
}

-- characters of which the first ones are kept
kept_places : (encoding : Encoding) (offset : ℕ) (bytes characters : List ℕ) → offset + length bytes ≤ 2 ^ 63 → list_all (is_kept (singles_in encoding)) bytes ≡ true
    → IsKeptFront encoding offset bytes (places_from offset (bytes ++ characters)) (places_from (offset + length bytes) characters)
kept_places encoding offset [] characters small all =
    subst (λ n. IsKeptFront encoding offset [] (places_from offset characters) (places_from n characters)) (omega arith) (record { codes = refl; offsets = refl; uncoded = refl; fewer = omega arith; small = small })
kept_places encoding offset (byte ∷ bytes) characters small all =
    let both = and_parts _ _ all in
    let one = len_utf8_ascii byte (kept_below (singles_in encoding) byte both.0) in
    let next : offset + 1 + length bytes ≡ offset + length (byte ∷ bytes) = omega arith in
    let rest = kept_places encoding (offset + 1) bytes characters (omega (arith, small)) both.1 in
    subst (λ n. IsKeptFront encoding offset (byte ∷ bytes) (places_from offset (byte ∷ bytes ++ characters)) (places_from n characters)) next
    (subst (λ n. IsKeptFront encoding offset (byte ∷ bytes) (record { offset = offset; character = byte } ∷ places_from (offset + n) (bytes ++ characters)) (places_from (offset + 1 + length bytes) characters)) (sym one)
    (kept_one encoding offset byte bytes (places_from (offset + 1) (bytes ++ characters)) (places_from (offset + 1 + length bytes) characters) (kept_codes encoding byte both.0) rest))

pub kept_front : (encoding : Encoding) (singles text kept rest : List ℕ) (places : List Place) (offset n : ℕ) → offset + length text ≤ 2 ^ 63 → places ≡ places_from offset (chars text)
    → singles ≡ singles_in encoding → list_all (is_kept singles) (take n text) ≡ true → n ≤ length text → kept ≡ take n text → rest ≡ drop n text
    → IsKeptFront encoding offset kept places (places_from (offset + n) (chars rest))
kept_front encoding singles text kept rest places offset n small are table all within front back =
    let here : list_all (is_kept (singles_in encoding)) kept ≡ true = subst (λ l. list_all (is_kept l) kept ≡ true) table (ap (list_all (is_kept singles)) front ∙ all) in
    let ascii = kept_ascii (singles_in encoding) kept here in
    let whole : text ≡ kept ++ rest = sym (take-append-drop n text) ∙ ap (λ l. l ++ drop n text) (sym front) ∙ ap (λ l. kept ++ l) (sym back) in
    let spelled : chars text ≡ kept ++ chars rest = ap chars whole ∙ chars-append kept rest (IsUtf8-from_ascii kept ascii) ∙ ap (λ l. l ++ chars rest) (chars-IsAscii kept ascii) in
    let long : length kept ≡ n = ap length front ∙ length-take-le n text within in
    rw (are, spelled, sym long) (kept_places encoding offset kept (chars rest) (omega (arith, long, small, within)) here)

-- a text may be cut after them
pub kept_boundary : (singles text : List ℕ) (n : ℕ) → IsUtf8 text → n ≤ length text → list_all (is_kept singles) (take n text) ≡ true → IsCharBoundary text n
kept_boundary singles text n utf8 within all = IsCharBoundary-from_take text n utf8 within (IsUtf8-from_ascii (take n text) (kept_ascii singles (take n text) all))

pub ruleset front = kept_boundary

-- ---- few codes

feed_numbers : (encoding : Encoding) → length (numbers_of encoding 10) ≡ 1
unfolding numbers_of codes_of characters_of others_of ot1_characters t1_characters ly1_characters shared_others ot1_others t1_others ly1_others
feed_numbers Ot1 = refl
feed_numbers T1 = refl
feed_numbers Ly1 = refl
feed_numbers Latin1 = refl
feed_numbers (Vector vector) = feed_alone vector

-- the codes of a character, or itself if it has none
few_there : (encoding : Encoding) (place : Place) → length (codes_there encoding place) + cond (is_none (text_codes encoding place.character)) 1 0 ≤ length (numbers_of encoding place.character)
unfolding numbers_of
few_there encoding place = by (nat_eq place.character 10) refl
  where
    apart : (b : Bool) (made : List ℕ) → length made + 0 ≤ length (cond b (break_number ∷ made ++ break_number ∷ []) made)
    apart true made = omega (arith, length-append made (break_number ∷ []))
    apart false made = omega arith

    found : (o : Option (List ℕ)) → length (unwrap_or o []) + cond (is_none o) 1 0 ≤ length (option_map_or (set_apart place.character) o ((256 + place.character) ∷ []))
    found None = omega arith
    found (Some made) = apart (is_apart place.character) made

    by : (b : Bool) → nat_eq place.character 10 ≡ b
        → length (unwrap_or (cond b (Some (10 ∷ [])) (codes_of encoding place.character)) []) + cond (is_none (cond b (Some (10 ∷ [])) (codes_of encoding place.character))) 1 0
        ≤ length (numbers_of encoding place.character)
    by true is = omega (arith, ap (λ c. length (numbers_of encoding c)) (eqb-true place.character 10 is), feed_numbers encoding)
    by false is = found (codes_of encoding place.character)

few_at : (encoding : Encoding) (places : List Place) → length (codes_at encoding places) + length (uncoded_at encoding places) ≤ length (flat_map (numbers_of encoding) (characters_in places))
few_at encoding [] = omega arith
few_at encoding (place ∷ places) =
    omega (
      arith,
      few_there encoding place,
      few_at encoding places,
      counted (is_none (text_codes encoding place.character)),
      length-append (codes_there encoding place) (codes_at encoding places),
      length-append (numbers_of encoding place.character) (flat_map (numbers_of encoding) (characters_in places)),
    )
  where
    counted : (b : Bool) → length (cond b (place ∷ uncoded_at encoding places) (uncoded_at encoding places)) ≡ cond b 1 0 + length (uncoded_at encoding places)
    counted true = omega arith
    counted false = omega arith

-- a text in UTF-8 has at most as many codes and characters without codes as bytes
pub text_few : (encoding : Encoding) (text : List ℕ) → IsUtf8 text → length (codes_at encoding (places_of true text)) + length (uncoded_at encoding (places_of true text)) ≤ length text
text_few encoding text utf8 = omega (arith, few_at encoding (places_of true text), places_few encoding true text utf8)
