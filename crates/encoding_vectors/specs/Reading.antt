-- A text while it is read.
-- This project's own representation; Tokens and Vectors define what is read.
use Rattle.std.specs.Prelude.{◌≡◌, ℕ, ◌-◌, ◌≤◌, Bool, false, ◌||◌, List, map, take, drop, length, Option, Some, None}
use Rattle.encoding_vectors.specs.Bytes.{is_white}
use Rattle.encoding_vectors.specs.Names.{character_of}
use Rattle.encoding_vectors.specs.Tokens.{Token, in_comment, tokens_from, without_comments}
use Rattle.encoding_vectors.specs.Vectors.{first_misfit}

-- whether a byte is in a comment or is white space
abbrev pub is_blank : Bool → ℕ → Bool
is_blank before byte = in_comment before byte || is_white byte

-- the tokens from an offset on at which no token and no comment continues
unfoldable pub tokens_at : List ℕ → ℕ → List Token
tokens_at text at = tokens_from at false (without_comments false (drop at text))

-- the bytes between two offsets as a token
abbrev pub token_between : List ℕ → ℕ → ℕ → Token
token_between text start end = record { offset = start; bytes = take (end - start) (drop start text) }

-- the first tokens from an offset on are what they have to be, and the others are those from another offset
-- on
pub record IsRead (form : List (List ℕ → Bool)) (text : List ℕ) (at end : ℕ) : Type 0 where
  pub within : end ≤ length text
  pub fits : first_misfit (length text) form (tokens_at text at) ≡ None
  pub rest : tokens_at text end ≡ drop (length form) (tokens_at text at)

-- one of them isn't: the offset of the first one
abbrev pub IsMisfit : List (List ℕ → Bool) → List ℕ → ℕ → ℕ → Type 0
IsMisfit form text at offset = first_misfit (length text) form (tokens_at text at) ≡ Some offset

-- the characters of the names among so many tokens
abbrev pub characters_at : List ℕ → ℕ → ℕ → List (Option ℕ)
characters_at text at count = map (λ token. character_of (drop 1 token.bytes)) (take count (tokens_at text at))
