-- The tokens of a text, from its front: white space and comments are left out, and a token ends where its
-- bytes do.
use Rattle.std.proofs.Common.{◌≡◌, ℕ, suc, ◌+◌, ◌-◌, ◌<◌, ◌≤◌, Bool, true, false, ◌||◌, cond, List, [], ◌∷◌, length, get_or, take, drop, arith, refl, ap, sym, subst, ◌∙◌, one-add, add-zero}
use Rattle.std.specs.List.{prefix_len}
use Rattle.std.proofs.lemmas.List.{drop_more, drop_all, drop-drop}
use Rattle.encoding_vectors.specs.Bytes.{is_white, is_regular, is_continued}
use Rattle.encoding_vectors.specs.Tokens.{Token, in_comment, without_comments, token_len, token_of, tokens_from}
use Rattle.encoding_vectors.specs.Reading.{is_blank, token_between, tokens_at}
use Rattle.encoding_vectors.proofs.ByteLemmas.{space_white, space_other, regular_not_white, white_ends, regular_outside, seen_outside, seen_not_white, seen_begins}

-- the byte that a byte becomes without comments
abbrev shown : Bool → ℕ → ℕ
shown before byte = cond (in_comment before byte) 32 byte

shown_other : (before : Bool) (byte : ℕ) → is_regular byte ≡ false → is_regular (shown before byte) ≡ false
shown_other before byte other = by (in_comment before byte)
  where
    by : (b : Bool) → is_regular (cond b 32 byte) ≡ false
    by true = space_other
    by false = other

-- a token by its offset and bytes
abbrev token_at : ℕ → List ℕ → Token
token_at offset bytes = record { offset = offset; bytes = bytes }

-- ---- blank bytes

-- what one blank byte adds: no token
pub blank_more : (offset : ℕ) (before : Bool) (byte : ℕ) (text : List ℕ) → is_blank before byte ≡ true
    → tokens_from offset false (without_comments before (byte ∷ text)) ≡ tokens_from (offset + 1) false (without_comments (in_comment before byte) text)
blank_more offset before byte text blank = by (in_comment before byte) blank
  where
    by : (b : Bool) → b || is_white byte ≡ true → tokens_from offset false (cond b 32 byte ∷ without_comments b text) ≡ tokens_from (offset + 1) false (without_comments b text)
    by true is = rw (space_white, white_ends 32 space_white) refl
    by false is = rw (is, white_ends byte is) refl

-- ---- regular characters

-- the regular characters at the front aren't in a comment
pub front_len : (text : List ℕ) → prefix_len is_regular (without_comments false text) ≡ prefix_len is_regular text
front_len [] = refl
front_len (byte ∷ text) = by (front_len text) (is_regular byte) refl
  where
    by : prefix_len is_regular (without_comments false text) ≡ prefix_len is_regular text → (b : Bool) → is_regular byte ≡ b
        → prefix_len is_regular (without_comments false (byte ∷ text)) ≡ prefix_len is_regular (byte ∷ text)
    by same true regular = rw (regular_outside byte regular, regular) (ap (λ n. 1 + n) same)
    by same false other = rw (shown_other false byte other, other) refl

front_bytes : (text : List ℕ) → take (prefix_len is_regular text) (without_comments false text) ≡ take (prefix_len is_regular text) text
front_bytes [] = refl
front_bytes (byte ∷ text) = by (front_bytes text) (is_regular byte) refl
  where
    by : take (prefix_len is_regular text) (without_comments false text) ≡ take (prefix_len is_regular text) text → (b : Bool) → is_regular byte ≡ b
        → take (prefix_len is_regular (byte ∷ text)) (without_comments false (byte ∷ text)) ≡ take (prefix_len is_regular (byte ∷ text)) (byte ∷ text)
    by same true regular = rw (regular_outside byte regular, regular, one-add) (ap (λ l. byte ∷ l) same)
    by same false other = rw other refl

-- a byte that isn't a regular character begins a token after any byte
same_start : (offset byte : ℕ) (text : List ℕ) → is_regular byte ≡ false → tokens_from offset true (byte ∷ text) ≡ tokens_from offset false (byte ∷ text)
same_start offset byte text other =
    ap (λ b. cond (is_white byte || b) (tokens_from (offset + 1) (is_continued byte) text) (token_of offset (byte ∷ text) ∷ tokens_from (offset + 1) (is_continued byte) text)) other

-- regular characters after a continued one add no token
run_more : (offset : ℕ) (text : List ℕ)
    → tokens_from offset true (without_comments false text) ≡ tokens_from (offset + prefix_len is_regular text) false (without_comments false (drop (prefix_len is_regular text) text))
run_more offset [] = refl
run_more offset (byte ∷ text) = by (run_more (offset + 1) text) (is_regular byte) refl
  where
    by : tokens_from (offset + 1) true (without_comments false text) ≡ tokens_from (offset + 1 + prefix_len is_regular text) false (without_comments false (drop (prefix_len is_regular text) text))
        → (b : Bool) → is_regular byte ≡ b
        → tokens_from offset true (without_comments false (byte ∷ text)) ≡ tokens_from (offset + prefix_len is_regular (byte ∷ text)) false (without_comments false (drop (prefix_len is_regular (byte ∷ text)) (byte ∷ text)))
    by same true regular =
        let n = prefix_len is_regular text in
        let moved : offset + 1 + n ≡ offset + suc n = omega arith in
        rw (regular_outside byte regular, regular, regular_not_white byte regular, one-add) (same ∙ ap (λ k. tokens_from k false (without_comments false (drop n text))) moved)
    by same false other = rw (other, add-zero) (same_start offset (shown false byte) (without_comments (in_comment false byte) text) (shown_other false byte other))

-- ---- the first token

-- a token and others after it, by their parts
joined : (offset : ℕ) (bytes other : List ℕ) (rest others : List Token) → bytes ≡ other → rest ≡ others
    → token_at offset bytes ∷ rest ≡ token_at offset other ∷ others
joined offset bytes other rest others same same_rest = λ i. token_at offset (same i) ∷ same_rest i

-- the token at the front of a text, and the tokens after it
first_token : (offset byte : ℕ) (text : List ℕ) → is_blank false byte ≡ false
    → tokens_from offset false (without_comments false (byte ∷ text))
    ≡ token_of offset (byte ∷ text) ∷ tokens_from (offset + token_len (byte ∷ text)) false (without_comments false (drop (token_len (byte ∷ text)) (byte ∷ text)))
first_token offset byte text seen = rw (seen_outside false byte seen, seen_not_white false byte seen) (by (is_continued byte))
  where
    by : (b : Bool)
        → token_at offset (take (1 + cond b (prefix_len is_regular (without_comments false text)) 0) (byte ∷ without_comments false text))
        ∷ tokens_from (offset + 1) b (without_comments false text)
        ≡ token_at offset (take (1 + cond b (prefix_len is_regular text) 0) (byte ∷ text))
        ∷ tokens_from (offset + (1 + cond b (prefix_len is_regular text) 0)) false (without_comments false (drop (1 + cond b (prefix_len is_regular text) 0) (byte ∷ text)))
    by true =
        let plain = without_comments false text in
        let n = prefix_len is_regular text in
        let moved : offset + 1 + n ≡ offset + (1 + n) = omega arith in
        joined offset (take (1 + prefix_len is_regular plain) (byte ∷ plain)) (take (1 + n) (byte ∷ text)) _ _
        (ap (λ k. take k (byte ∷ plain)) (one-add (prefix_len is_regular plain))
        ∙ ap (λ l. byte ∷ l) (ap (λ k. take k plain) (front_len text) ∙ front_bytes text)
        ∙ sym (ap (λ k. take k (byte ∷ text)) (one-add n)))
        (run_more (offset + 1) text
        ∙ ap (λ k. tokens_from k false (without_comments false (drop n text))) moved
        ∙ ap (λ k. tokens_from (offset + (1 + n)) false (without_comments false (drop k (byte ∷ text)))) (sym (one-add n)))
    by false = refl

-- the same at an offset of a text
pub token_there : (text : List ℕ) (at : ℕ) → at < length text → is_blank false (get_or text at 0) ≡ false
    → tokens_at text at ≡ token_between text at (at + token_len (drop at text)) ∷ tokens_at text (at + token_len (drop at text))
unfolding tokens_at
token_there text at within seen =
    let byte = get_or text at 0 in let rest = drop (at + 1) text in
    let front : drop at text ≡ byte ∷ rest = drop_more text at 0 within in
    let len = token_len (drop at text) in
    let size : at + len - at ≡ len = omega arith in
    let dropped : drop len (drop at text) ≡ drop (at + len) text = drop-drop len at text in
    subst (λ l. tokens_from at false (without_comments false l)
    ≡ token_of at l ∷ tokens_from (at + token_len l) false (without_comments false (drop (token_len l) l))) (sym front) (first_token at byte rest seen)
    ∙ joined at (take len (drop at text)) (take (at + len - at) (drop at text)) _ _ (ap (λ k. take k (drop at text)) (sym size))
    (ap (λ l. tokens_from (at + len) false (without_comments false l)) dropped)

-- ---- an end

-- at the end of a text there is no token
pub no_more : (text : List ℕ) (at : ℕ) → length text ≤ at → tokens_at text at ≡ []
unfolding tokens_at
no_more text at past = ap (λ l. tokens_from at false (without_comments false l)) (drop_all at text past)

-- ---- the loop over blank bytes

-- the tokens from an offset on, in a comment or not
abbrev pub tokens_in : List ℕ → ℕ → Bool → List Token
tokens_in text at before = tokens_from at false (without_comments before (drop at text))

pub begun : (text : List ℕ) (at : ℕ) → tokens_at text at ≡ tokens_in text at false
unfolding tokens_at
begun text at = refl

pub blank_step : (text : List ℕ) (at : ℕ) (before : Bool) → at < length text → is_blank before (get_or text at 0) ≡ true
    → tokens_in text at before ≡ tokens_in text (at + 1) (in_comment before (get_or text at 0))
blank_step text at before within blank =
    ap (λ l. tokens_from at false (without_comments before l)) (drop_more text at 0 within) ∙ blank_more at before (get_or text at 0) (drop (at + 1) text) blank

-- at a byte that isn't blank, no comment continues
pub blank_over : (text : List ℕ) (at : ℕ) (before : Bool) → is_blank before (get_or text at 0) ≡ false → tokens_in text at before ≡ tokens_at text at
unfolding tokens_at
blank_over text at before seen = ap (tokens_in text at) (seen_begins before (get_or text at 0) seen)

pub blank_end : (text : List ℕ) (at : ℕ) (before : Bool) → length text ≤ at → tokens_in text at before ≡ tokens_at text at
unfolding tokens_at
blank_end text at before past =
    let none : drop at text ≡ [] = drop_all at text past in
    ap (λ l. tokens_from at false (without_comments before l)) none ∙ sym (ap (λ l. tokens_from at false (without_comments false l)) none)
