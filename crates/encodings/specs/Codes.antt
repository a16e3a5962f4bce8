-- The codes of a character in an encoding.
-- Public source: that of Tables for OT1, T1 and LY1, and ISO/IEC 8859-1 for Latin 1; utf8enc.dfu of LaTeX for the
-- no-break space, the soft hyphen and the non-breaking hyphen, in a line that isn't broken. Which code a character has in a vector, and which characters are set there as others, is
-- defined in Vectors.
use Rattle.std.specs.Prelude.{◌≡◌, ℕ, ◌<◌, Bool, ◌||◌, List, [], ◌∷◌, ◌++◌, Option, Some, None, cond, nat_eq}
use Rattle.std.specs.List.{position, range_with_len}
use Rattle.std.specs.Option.{option_and_then, option_map, option_or}
use Rattle.encodings.specs.declared.encoding.Encoding.{Encoding}
use Rattle.encodings.specs.declared.encoding.Encoding.TheVariants.{Ot1, T1, Ly1, Latin1, Vector}
use Rattle.encodings.specs.Tables.{no, ot1_characters, t1_characters, ly1_characters}
use Rattle.encodings.specs.Tables.{shared_others, ot1_shown_otherwise, ot1_others, t1_others, ly1_others}
use Rattle.encodings.specs.Vectors.{numbers_of, substitute_of, unbroken, vector_characters}

-- the characters of an encoding by code
unfoldable pub characters_of : Encoding → List ℕ
characters_of Ot1 = ot1_characters
characters_of T1 = t1_characters
characters_of Ly1 = ly1_characters
characters_of Latin1 = range_with_len 0 256
characters_of (Vector vector) = vector_characters vector.now.characters

-- the characters that have codes without being the character at a code, with these codes: in Latin 1 and in a vector
-- the no-break space and the soft hyphen
unfoldable pub others_of : Encoding → List (ℕ × List ℕ)
others_of Ot1 = shared_others ++ (ot1_shown_otherwise ++ ot1_others)
others_of T1 = shared_others ++ t1_others
others_of Ly1 = shared_others ++ ly1_others
others_of Latin1 = unbroken
others_of (Vector vector) = unbroken

-- the codes beside a character in a list
abbrev pub codes_beside : List (ℕ × List ℕ) → ℕ → Option (List ℕ)
codes_beside [] character = None
codes_beside (row ∷ rows) character = cond (nat_eq row.0 character) (Some row.1) (codes_beside rows character)

-- the code at which a character stands in a list by code
abbrev pub own_code : List ℕ → ℕ → Option (List ℕ)
own_code characters character =
    option_map (λ code. code ∷ []) (position (λ each. nat_eq each character) characters)

-- the codes of a character where the characters by code are these: those that it always has, its own, or those of
-- the character as which it is set
abbrev pub listed_codes : List ℕ → ℕ → Option (List ℕ)
listed_codes characters character =
    option_or (codes_beside unbroken character)
    (option_or (own_code characters character) (option_and_then (own_code characters) (substitute_of character)))

-- the codes of a character, if it has any: in a vector those among its characters, and otherwise other ones, or its own
unfoldable pub codes_of : Encoding → ℕ → Option (List ℕ)
codes_of (Vector vector) character = listed_codes (vector_characters vector.now.characters) character
codes_of encoding character =
    option_or (codes_beside (others_of encoding) character) (own_code (characters_of encoding) character)

-- whether a character is set apart from its neighbours: the soft hyphen, where a run ends and another one begins, and
-- the non-breaking hyphen, which is a run of its own
abbrev pub is_apart : ℕ → Bool
is_apart character = nat_eq character 0xAD || nat_eq character 0x2011

-- ---- encodings that are made of characters

-- the codes of a character where a list gives the codes their characters: the code of the space for a
-- no-break space, and an empty list for a soft hyphen; for any other character the code that sets it in the list,
-- or if there is none, the one that sets the character as which it is set
abbrev pub given_codes : List (Option ℕ) → ℕ → Option (List ℕ)
given_codes given character = listed_codes (vector_characters (numbers_of given)) character

-- an encoding has the characters of a list, each at the code that sets it, and gives each character these codes
pub record IsMadeOf (given : List (Option ℕ)) (encoding : Encoding) : Type 0 where
  pub characters : characters_of encoding ≡ vector_characters (numbers_of given)
  pub codes : (character : ℕ) → character < no → codes_of encoding character ≡ given_codes given character
