-- The tokens of a text, as PostScript's scanner finds them, as far as encoding vectors need it.
-- Public source: PostScript Language Reference, third edition, section 3.2; the manual of dvips, section
-- 6.3.1.5, for comments, which end with their line (in PostScript also with a form feed).
use Rattle.std.specs.Prelude.{ℕ, ◌+◌, Bool, false, ◌&&◌, ◌||◌, not, cond, nat_eq, List, [], ◌∷◌, take}
use Rattle.std.specs.List.{prefix_len}
use Rattle.encoding_vectors.specs.Bytes.{is_white, is_regular, ends_line, is_continued}

-- ---- comments

-- whether a byte is in a comment, if the one before it is or isn't: a comment begins with % and goes on to
-- the end of the line
abbrev pub in_comment : Bool → ℕ → Bool
in_comment before byte = (before || nat_eq byte 37) && not (ends_line byte)

-- a text with a space in place of each byte of a comment; it may begin in a comment
abbrev pub without_comments : Bool → List ℕ → List ℕ
without_comments before [] = []
without_comments before (byte ∷ text) =
    cond (in_comment before byte) 32 byte ∷ without_comments (in_comment before byte) text

-- ---- tokens

-- a token: the offset of its first byte, and its bytes
pub record Token : Type 0 where
  pub offset : ℕ
  pub bytes : List ℕ

-- the number of bytes of the token at the front of a text: a slash or a regular character goes on with the
-- regular characters after it, and any other byte is a token of its own
abbrev pub token_len : List ℕ → ℕ
token_len [] = 0
token_len (byte ∷ text) = 1 + cond (is_continued byte) (prefix_len is_regular text) 0

-- this token, if it begins at this offset
abbrev pub token_of : ℕ → List ℕ → Token
token_of offset text = record { offset = offset; bytes = take (token_len text) text }

-- the tokens of a text without comments that begins at this offset. A token begins at each byte, except for
-- white space, and for a regular character that belongs to the token of the byte before it; `continued`
-- states whether a regular character at the front does.
abbrev pub tokens_from : ℕ → Bool → List ℕ → List Token
tokens_from offset continued [] = []
tokens_from offset continued (byte ∷ text) =
    cond (is_white byte || (continued && is_regular byte))
    (tokens_from (offset + 1) (is_continued byte) text)
    (token_of offset (byte ∷ text) ∷ tokens_from (offset + 1) (is_continued byte) text)

-- the tokens of a text
unfoldable pub tokens_of : List ℕ → List Token
tokens_of text = tokens_from 0 false (without_comments false text)
