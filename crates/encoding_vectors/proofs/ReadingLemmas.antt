-- A vector is read part by part: what the tokens of each part have to be, one part after another.
use Rattle.std.proofs.Common.{◌≡◌, ℕ, suc, ◌+◌, ◌-◌, ◌<◌, ◌≤◌, Bool, true, false, ◌&&◌, ◌||◌, cond, List, [], ◌∷◌, ◌++◌, length, take, drop, map, replicate, set, Option, Some, None, arith, refl, ap, sym, subst, ◌∙◌, length-append}
use Rattle.std.specs.Prelude.{codes, option_map}
use Rattle.std.proofs.lemmas.Bool.{le-ltb, lt-ltb}
use Rattle.std.proofs.lemmas.List.{drop-drop, drop-take, take-take, take-append-drop, take_more_set, map-append, length-replicate, replicate-append-replicate}
use Rattle.std.proofs.lemmas.Simd.{map-map}
use Rattle.encoding_vectors.specs.Names.{character_of}
use Rattle.encoding_vectors.specs.Bytes.{is_continued, is_regular, is_white}
use Rattle.encoding_vectors.specs.Tokens.{Token, in_comment, token_of, tokens_from, tokens_of, without_comments}
use Rattle.encoding_vectors.specs.Vectors.{first_misfit, fault_line, is_name, is_word, line_after, most_bytes, vector_form, characters_of, names_of}
use Rattle.encoding_vectors.specs.Reading.{IsRead, IsMisfit, tokens_at, token_between, characters_at}

-- ---- tokens that are what they have to be, and others after them

misfit_after : (end : ℕ) (form more : List (List ℕ → Bool)) (tokens : List Token) → first_misfit end form tokens ≡ None
    → first_misfit end (form ++ more) tokens ≡ first_misfit end more (drop (length form) tokens)
misfit_after end [] more tokens none = refl
misfit_after end (is ∷ form) more [] none = cc
misfit_after end (is ∷ form) more (token ∷ tokens) none = by (misfit_after end form more tokens) (is token.bytes) none
  where
    by : (first_misfit end form tokens ≡ None → first_misfit end (form ++ more) tokens ≡ first_misfit end more (drop (length form) tokens))
        → (b : Bool) → cond b (first_misfit end form tokens) (Some token.offset) ≡ None
        → cond b (first_misfit end (form ++ more) tokens) (Some token.offset) ≡ first_misfit end more (drop (length form) tokens)
    by rest true none = rest none
    by rest false none = cc

misfit_before : (end offset : ℕ) (form more : List (List ℕ → Bool)) (tokens : List Token) → first_misfit end form tokens ≡ Some offset
    → first_misfit end (form ++ more) tokens ≡ Some offset
misfit_before end offset [] more tokens is = cc
misfit_before end offset (test ∷ form) more [] is = is
misfit_before end offset (test ∷ form) more (token ∷ tokens) is = by (misfit_before end offset form more tokens) (test token.bytes) is
  where
    by : (first_misfit end form tokens ≡ Some offset → first_misfit end (form ++ more) tokens ≡ Some offset)
        → (b : Bool) → cond b (first_misfit end form tokens) (Some token.offset) ≡ Some offset
        → cond b (first_misfit end (form ++ more) tokens) (Some token.offset) ≡ Some offset
    by rest true is = rest is
    by rest false is = is

module _ (form more : List (List ℕ → Bool)) (text : List ℕ) (at : ℕ) where
  -- two parts are read
  pub read_both : (middle end : ℕ) → IsRead form text at middle → IsRead more text middle end → IsRead (form ++ more) text at end
  read_both middle end first second = record {
    within = second.within;
    fits = misfit_after (length text) form more (tokens_at text at) first.fits ∙ ap (first_misfit (length text) more) (sym first.rest) ∙ second.fits;
    rest = second.rest ∙ ap (drop (length more)) first.rest ∙ drop-drop (length more) (length form) (tokens_at text at)
        ∙ ap (λ n. drop n (tokens_at text at)) (sym (length-append form more));
  }

  -- the first part is read, and there is a misfit in the second one
  pub second_misfit : (middle offset : ℕ) → IsRead form text at middle → IsMisfit more text middle offset → IsMisfit (form ++ more) text at offset
  second_misfit middle offset first second =
      misfit_after (length text) form more (tokens_at text at) first.fits ∙ ap (first_misfit (length text) more) (sym first.rest) ∙ second

  -- there is a misfit in the first part
  pub first_misfit_stays : (offset : ℕ) → IsMisfit form text at offset → IsMisfit (form ++ more) text at offset
  first_misfit_stays offset is = misfit_before (length text) offset form more (tokens_at text at) is

-- ---- one token

pub one_fits : (is : List ℕ → Bool) (text : List ℕ) (at end : ℕ) (token : Token) → end ≤ length text → tokens_at text at ≡ token ∷ tokens_at text end → is token.bytes ≡ true
    → IsRead (is ∷ []) text at end
one_fits is text at end token within tokens fits = record {
  within = within;
  fits = ap (first_misfit (length text) (is ∷ [])) tokens ∙ ap (λ b. cond b None (Some token.offset)) fits;
  rest = sym (ap (drop 1) tokens);
}

pub one_misfit : (is : List ℕ → Bool) (text : List ℕ) (at end : ℕ) (token : Token) → tokens_at text at ≡ token ∷ tokens_at text end → is token.bytes ≡ false
    → IsMisfit (is ∷ []) text at token.offset
one_misfit is text at end token tokens other =
    ap (first_misfit (length text) (is ∷ [])) tokens ∙ ap (λ b. cond b None (Some token.offset)) other

pub no_token : (is : List ℕ → Bool) (text : List ℕ) (at : ℕ) → tokens_at text at ≡ [] → IsMisfit (is ∷ []) text at (length text)
no_token is text at none = ap (first_misfit (length text) (is ∷ [])) none

-- the name that a token is
pub name_bytes : (text : List ℕ) (start end : ℕ) → start < end → drop 1 (take (end - start) (drop start text)) ≡ take (end - (start + 1)) (drop (start + 1) text)
name_bytes text start end more =
    let size : end - start ≡ 1 + (end - (start + 1)) = omega arith in
    ap (λ n. drop 1 (take n (drop start text))) size
    ∙ drop-take 1 (end - (start + 1)) (drop start text)
    ∙ ap (take (end - (start + 1))) (drop-drop 1 start text)

-- the character of a name that is the next token
pub name_character : (text : List ℕ) (at start end : ℕ) → start < end → tokens_at text at ≡ token_between text start end ∷ tokens_at text end
    → characters_at text at 1 ≡ character_of (take (end - (start + 1)) (drop (start + 1) text)) ∷ []
name_character text at start end more tokens =
    ap (λ l. map (λ (token : Token). character_of (drop 1 token.bytes)) (take 1 l)) tokens ∙ ap (λ l. character_of l ∷ []) (name_bytes text start end more)

-- ---- several names

take_both : (m n : ℕ) (tokens : List Token) → take (m + n) tokens ≡ take m tokens ++ take n (drop m tokens)
take_both m n tokens = sym (take-append-drop m (take (m + n) tokens)) ∙ ap (λ l. l ++ drop m (take (m + n) tokens)) (take-take m (m + n) tokens (omega arith)) ∙ ap (λ l. take m tokens ++ l) (drop-take m n tokens)

module _ (text : List ℕ) (at : ℕ) where
  -- one more name
  pub name_more : (count middle end : ℕ) → IsRead (replicate count is_name) text at middle → IsRead (is_name ∷ []) text middle end → IsRead (replicate (count + 1) is_name) text at end
  name_more count middle end first second =
      subst (λ form. IsRead form text at end) (replicate-append-replicate count 1 is_name) (read_both (replicate count is_name) (is_name ∷ []) text at middle end first second)

  -- its character
  pub character_more : (count middle : ℕ) (characters : List (Option ℕ)) (character : Option ℕ) → count < length characters → IsRead (replicate count is_name) text at middle
      → take count characters ≡ characters_at text at count → characters_at text middle 1 ≡ character ∷ []
      → take (count + 1) (set characters count character) ≡ characters_at text at (count + 1)
  character_more count middle characters character within first before one =
      let named : Token → Option ℕ = λ token. character_of (drop 1 token.bytes) in
      let tokens = tokens_at text at in
      let rest : tokens_at text middle ≡ drop count tokens = first.rest ∙ ap (λ n. drop n tokens) (length-replicate count is_name) in
      take_more_set characters count character within
      ∙ ap (λ l. l ++ character ∷ []) before
      ∙ ap (λ l. map named (take count tokens) ++ l) (sym one ∙ ap (λ l. map named (take 1 l)) rest)
      ∙ sym (map-append named (take count tokens) (take 1 (drop count tokens)))
      ∙ ap (map named) (sym (take_both count 1 tokens))

  -- a token that isn't a name
  pub name_misfit : (count all middle offset : ℕ) → count < all → IsRead (replicate count is_name) text at middle → IsMisfit (is_name ∷ []) text middle offset
      → IsMisfit (replicate all is_name) text at offset
  name_misfit count all middle offset within first second =
      let here = second_misfit (replicate count is_name) (is_name ∷ []) text at middle offset first second in
      let others = replicate (all - (count + 1)) is_name in
      let size : count + 1 + (all - (count + 1)) ≡ all = omega arith in
      let form : (replicate count is_name ++ is_name ∷ []) ++ others ≡ replicate all is_name =
      ap (λ l. l ++ others) (replicate-append-replicate count 1 is_name) ∙ replicate-append-replicate (count + 1) (all - (count + 1)) is_name ∙ ap (λ n. replicate n is_name) size in
      subst (λ l. IsMisfit l text at offset) form (first_misfit_stays (replicate count is_name ++ is_name ∷ []) others text at offset here)

-- no names at first
pub no_names : (text : List ℕ) (at : ℕ) → at ≤ length text → IsRead (replicate 0 is_name) text at at
no_names text at within = record { within = within; fits = refl; rest = refl }

-- ---- the whole vector

abbrev head_form : List (List ℕ → Bool)
head_form = is_name ∷ is_word (codes "[") ∷ []

abbrev names_form : List (List ℕ → Bool)
names_form = head_form ++ replicate 256 is_name

abbrev end_form : List (List ℕ → Bool)
end_form = is_word (codes "]") ∷ is_word (codes "def") ∷ []

pub all_tokens : (text : List ℕ) → tokens_of text ≡ tokens_at text 0
unfolding tokens_of tokens_at
all_tokens text = refl

of_vector : (text : List ℕ) → first_misfit (length text) vector_form (tokens_of text) ≡ first_misfit (length text) (names_form ++ end_form) (tokens_at text 0)
unfolding vector_form
of_vector text = ap (first_misfit (length text) (names_form ++ end_form)) (all_tokens text)

-- what is read up to a part
module _ (text : List ℕ) (a : ℕ) (name : IsRead (is_name ∷ []) text 0 a) where
  head : (b : ℕ) → IsRead (is_word (codes "[") ∷ []) text a b → IsRead head_form text 0 b
  head b bracket = read_both (is_name ∷ []) (is_word (codes "[") ∷ []) text 0 a b name bracket

  pub head_misfit : (offset : ℕ) → IsMisfit (is_word (codes "[") ∷ []) text a offset → first_misfit (length text) vector_form (tokens_of text) ≡ Some offset
  head_misfit offset is = of_vector text ∙ first_misfit_stays names_form end_form text 0 offset
      (first_misfit_stays head_form (replicate 256 is_name) text 0 offset (second_misfit (is_name ∷ []) (is_word (codes "[") ∷ []) text 0 a offset name is))

  module _ (b : ℕ) (bracket : IsRead (is_word (codes "[") ∷ []) text a b) where
    names : (c : ℕ) → IsRead (replicate 256 is_name) text b c → IsRead names_form text 0 c
    names c all = read_both head_form (replicate 256 is_name) text 0 b c (head b bracket) all

    pub names_misfit : (offset : ℕ) → IsMisfit (replicate 256 is_name) text b offset → first_misfit (length text) vector_form (tokens_of text) ≡ Some offset
    names_misfit offset is = of_vector text ∙ first_misfit_stays names_form end_form text 0 offset
        (second_misfit head_form (replicate 256 is_name) text 0 b offset (head b bracket) is)

    pub all_characters : characters_at text b 256 ≡ characters_of text
    unfolding characters_of names_of
    all_characters =
        ap (λ l. map (λ (token : Token). character_of (drop 1 token.bytes)) (take 256 l)) ((head b bracket).rest ∙ ap (drop 2) (sym (all_tokens text)))
        ∙ sym (map-map character_of (λ (token : Token). drop 1 token.bytes) (take 256 (drop 2 (tokens_of text))))

    module _ (c : ℕ) (all : IsRead (replicate 256 is_name) text b c) where
      pub bracket_misfit : (offset : ℕ) → IsMisfit (is_word (codes "]") ∷ []) text c offset → first_misfit (length text) vector_form (tokens_of text) ≡ Some offset
      bracket_misfit offset is = of_vector text ∙ second_misfit names_form end_form text 0 c offset (names c all)
          (first_misfit_stays (is_word (codes "]") ∷ []) (is_word (codes "def") ∷ []) text c offset is)

      module _ (d : ℕ) (closed : IsRead (is_word (codes "]") ∷ []) text c d) where
        pub end_misfit : (offset : ℕ) → IsMisfit (is_word (codes "def") ∷ []) text d offset → first_misfit (length text) vector_form (tokens_of text) ≡ Some offset
        end_misfit offset is = of_vector text ∙ second_misfit names_form end_form text 0 c offset (names c all)
            (second_misfit (is_word (codes "]") ∷ []) (is_word (codes "def") ∷ []) text c d offset closed is)

        pub all_read : (e : ℕ) → IsRead (is_word (codes "def") ∷ []) text d e → first_misfit (length text) vector_form (tokens_of text) ≡ None
        all_read e defined = of_vector text ∙ (read_both names_form end_form text 0 c e (names c all)
            (read_both (is_word (codes "]") ∷ []) (is_word (codes "def") ∷ []) text c d e closed defined)).fits

pub name_first_misfit : (text : List ℕ) (offset : ℕ) → IsMisfit (is_name ∷ []) text 0 offset → first_misfit (length text) vector_form (tokens_of text) ≡ Some offset
name_first_misfit text offset is = of_vector text ∙ first_misfit_stays names_form end_form text 0 offset
    (first_misfit_stays head_form (replicate 256 is_name) text 0 offset (first_misfit_stays (is_name ∷ []) (is_word (codes "[") ∷ []) text 0 offset is))

-- ---- the offset of a misfit is in the text

abbrev AreWithin : ℕ → List Token → Type 0
AreWithin end [] = Unit {0}
AreWithin end (token ∷ tokens) = (token.offset ≤ end) × AreWithin end tokens

tokens_within : (end offset : ℕ) (continued : Bool) (text : List ℕ) → offset + length text ≤ end → AreWithin end (tokens_from offset continued text)
tokens_within end offset continued [] fits = tt
tokens_within end offset continued (byte ∷ text) fits =
    by (is_white byte || (continued && is_regular byte)) (tokens_within end (offset + 1) (is_continued byte) text (omega arith))
  where
    by : (b : Bool) → AreWithin end (tokens_from (offset + 1) (is_continued byte) text)
        → AreWithin end (cond b (tokens_from (offset + 1) (is_continued byte) text) (token_of offset (byte ∷ text) ∷ tokens_from (offset + 1) (is_continued byte) text))
    by true within = within
    by false within = (omega arith, within)

length-without_comments : (before : Bool) (text : List ℕ) → length (without_comments before text) ≡ length text
length-without_comments before [] = refl
length-without_comments before (byte ∷ text) = ap suc (length-without_comments (in_comment before byte) text)

misfit_within : (end offset : ℕ) (form : List (List ℕ → Bool)) (tokens : List Token) → AreWithin end tokens → first_misfit end form tokens ≡ Some offset → offset ≤ end
misfit_within end offset [] tokens within is = cc
misfit_within end offset (test ∷ form) [] within is = let same : end ≡ offset = cc in omega arith
misfit_within end offset (test ∷ form) (token ∷ tokens) within is = by (misfit_within end offset form tokens within.1) (test token.bytes) is
  where
    by : (first_misfit end form tokens ≡ Some offset → offset ≤ end) → (b : Bool) → cond b (first_misfit end form tokens) (Some token.offset) ≡ Some offset → offset ≤ end
    by rest true is = rest is
    by rest false is = let same : token.offset ≡ offset = cc in omega (arith, within.0)

pub offset_within : (text : List ℕ) (offset : ℕ) → first_misfit (length text) vector_form (tokens_of text) ≡ Some offset → offset ≤ length text
unfolding tokens_of
offset_within text offset is =
    misfit_within (length text) offset vector_form (tokens_of text) (tokens_within (length text) 0 false (without_comments false text) (omega (arith, length-without_comments false text))) is

-- ---- the line of a fault

pub too_long : (text : List ℕ) → most_bytes < length text → fault_line text ≡ Some (line_after text most_bytes)
unfolding fault_line
too_long text long = rw (lt-ltb most_bytes (length text) long) refl

pub not_long : (text : List ℕ) → length text ≤ most_bytes → fault_line text ≡ option_map (line_after text) (first_misfit (length text) vector_form (tokens_of text))
unfolding fault_line
not_long text short = rw (le-ltb most_bytes (length text) short) refl
