-- The unknown names among the first of some tokens.
use Rattle.std.proofs.Common.{◌≡◌, ℕ, Bool, suc, ◌+◌, ◌-◌, ◌<◌, List, [], ◌∷◌, ◌++◌, cond, take, drop, map, ap, sym, ◌∙◌, append_assoc}
use Rattle.std.specs.Borrow.{Bor}
use Rattle.std.proofs.lemmas.List.{drop-drop, map-append}
use Rattle.std.specs.List.{filter}
use Rattle.encoding_vectors.specs.Tokens.{Token, tokens_of}
use Rattle.encoding_vectors.specs.Reading.{token_between, tokens_at}
use Rattle.encoding_vectors.specs.Vectors.{names_of}
use Rattle.encoding_vectors.specs.Unknown.{is_unknown, unknown_names}
use Rattle.encoding_vectors.proofs.ReadingLemmas.{all_tokens, name_bytes}

-- the unknown names among so many tokens at the front
abbrev pub unknown_in : ℕ → List Token → List (List ℕ)
unknown_in count tokens = filter is_unknown (map (λ token. drop 1 token.bytes) (take count tokens))

-- the names begin after two tokens
pub names_begin : (text : List ℕ) (a b : ℕ) → tokens_at text a ≡ drop 1 (tokens_at text 0) → tokens_at text b ≡ drop 1 (tokens_at text a)
    → unknown_in 256 (tokens_at text b) ≡ unknown_names text
unfolding unknown_names names_of
names_begin text a b first second =
    ap (unknown_in 256) (second ∙ ap (drop 1) first ∙ drop-drop 1 1 (tokens_at text 0) ∙ ap (drop 2) (sym (all_tokens text)))

-- a name is the next token
pub name_next : (text : List ℕ) (at start end m n : ℕ) → m ≡ suc n → start < end → tokens_at text at ≡ token_between text start end ∷ tokens_at text end
    → (b : Bool) → b ≡ is_unknown (take (end - (start + 1)) (drop (start + 1) text))
    → unknown_in m (tokens_at text at)
    ≡ cond b (take (end - (start + 1)) (drop (start + 1) text) ∷ unknown_in n (tokens_at text end)) (unknown_in n (tokens_at text end))
name_next text at start end m n more after tokens b tested =
    let rest = unknown_in n (tokens_at text end) in
    ap (λ k. unknown_in k (tokens_at text at)) more
    ∙ ap (unknown_in (suc n)) tokens
    ∙ ap (λ name. cond (is_unknown name) (name ∷ rest) rest) (name_bytes text start end after)
    ∙ ap (λ is. cond is (take (end - (start + 1)) (drop (start + 1) text) ∷ rest) rest) (sym tested)

-- an unknown name is appended
pub name_pushed : (names made : List (Bor (List ℕ))) (name : Bor (List ℕ)) (remaining rest all : List (List ℕ)) → made ≡ names ++ name ∷ []
    → map (λ (each : Bor (List ℕ)). each.now) names ++ remaining ≡ all → remaining ≡ name.now ∷ rest
    → map (λ (each : Bor (List ℕ)). each.now) made ++ rest ≡ all
name_pushed names made name remaining rest all pushed before next =
    let now : Bor (List ℕ) → List ℕ = λ each. each.now in
    ap (λ l. map now l ++ rest) pushed
    ∙ ap (λ l. l ++ rest) (map-append now names (name ∷ []))
    ∙ append_assoc (map now names) (name.now ∷ []) rest
    ∙ ap (λ l. map now names ++ l) (sym next)
    ∙ before
