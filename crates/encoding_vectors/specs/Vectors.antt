-- Encoding vectors, and why a text isn't one.
-- Public source: the manual of dvips, section 6.3.1.5 (Encoding file format). The manual calls the token
-- `def` optional. It is required here, as by dvips if it includes a part of a font; afm2tfm doesn't require
-- it. A name has at least one character, as afm2tfm requires.
use Rattle.std.specs.Prelude.{ℕ, ◌+◌, Bool, ◌&&◌, ◌||◌, not, cond, nat_eq, nat_lt, List, [], ◌∷◌, ◌++◌, map, take, drop, length, replicate, slice_index, Option, Some, None, option_map, bytes_eq, codes}
use Rattle.std.specs.Int.{from_bool}
use Rattle.encoding_vectors.specs.Tokens.{Token, tokens_of}
use Rattle.encoding_vectors.specs.Names.{character_of}

-- ---- lines

-- whether a line ends with the byte at the front of a text: an LF or a CR ends it, and a CR LF ends it once
abbrev pub ends_one : ℕ → List ℕ → Bool
ends_one byte text = nat_eq byte 10 || (nat_eq byte 13 && not (nat_eq (slice_index text 0) 10))

-- the number of lines that end in a text
abbrev pub line_ends : List ℕ → ℕ
line_ends [] = 0
line_ends (byte ∷ text) = from_bool (ends_one byte text) + line_ends text

-- the number of the line on which so many bytes at the front of a text end, starting at 1
unfoldable pub line_after : List ℕ → ℕ → ℕ
line_after text offset = line_ends (take offset text) + 1

-- ---- the tokens of a vector

-- a literal name: a slash and at least one character
abbrev pub is_name : List ℕ → Bool
is_name token = nat_eq (slice_index token 0) 47 && nat_lt 1 (length token)

-- exactly this token
abbrev pub is_word : List ℕ → List ℕ → Bool
is_word word token = bytes_eq token word

-- what the tokens of a vector are, in order: the name of the vector, a bracket, 256 names, a bracket, and
-- `def`
unfoldable pub vector_form : List (List ℕ → Bool)
vector_form =
    is_name ∷ is_word (codes "[") ∷ [] ++ replicate 256 is_name ++ is_word (codes "]") ∷ is_word (codes "def") ∷ []

-- the offset of the first token that isn't what it has to be, or that of the end of the text, if there are
-- too few tokens
abbrev pub first_misfit : ℕ → List (List ℕ → Bool) → List Token → Option ℕ
first_misfit end [] tokens = None
first_misfit end (is ∷ form) [] = Some end
first_misfit end (is ∷ form) (token ∷ tokens) =
    cond (is token.bytes) (first_misfit end form tokens) (Some token.offset)

-- ---- the vector

-- the largest number of bytes of a text
abbrev pub most_bytes : ℕ
most_bytes = 65536

-- the line of the first token that doesn't belong to a vector, if there is one. A text that is too long is
-- none, whatever its tokens are; its line is the one on which the largest number of bytes end.
unfoldable pub fault_line : List ℕ → Option ℕ
fault_line text =
    cond (nat_lt most_bytes (length text))
    (Some (line_after text most_bytes))
    (option_map (line_after text) (first_misfit (length text) vector_form (tokens_of text)))

-- the 256 names, in order
unfoldable pub names_of : List ℕ → List (List ℕ)
names_of text = map (λ token. drop 1 token.bytes) (take 256 (drop 2 (tokens_of text)))

-- the characters of the 256 names, in order
unfoldable pub characters_of : List ℕ → List (Option ℕ)
characters_of text = map character_of (names_of text)
