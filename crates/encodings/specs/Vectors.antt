-- Characters by code as a list gives them, and the characters of an encoding that is made of them.
-- Public source: the manual of dvips, "Encoding file format", where a vector names the characters of 256
-- codes; LaTeX's package inputenc, in a line that isn't broken, for the no-break space and the soft hyphen;
-- LaTeX's files t1enc.def and utf8enc.dfu for the characters that are set as others. Which characters codes 10 and
-- 32 have, which code a character has that is listed twice, and that a listed character is set by its own code
-- unless it is ' or `, is this project's own.
use Rattle.std.specs.Prelude.{ℕ, Bool, List, [], ◌∷◌, Option, Some, None, cond, is_some, not, ◌&&◌, ◌||◌, nat_eq, nat_lt, length, map, get_or, unwrap_or}
use Rattle.std.specs.List.{list_any, position, position_or_len, range_with_len}
use lib.Utf8.{scalar}
use Rattle.encodings.specs.Tables.{no}

-- ---- characters that have the same codes whatever a list has

-- the no-break space, which is a space, and the soft hyphen, which has no code of its own
abbrev pub unbroken : List (ℕ × List ℕ)
unbroken = (0xA0, 32 ∷ []) ∷ (0xAD, []) ∷ []

-- whether a character is one of these, or the space, which has code 32
abbrev pub is_fixed : ℕ → Bool
is_fixed character = nat_eq character 0x20 || list_any (λ row. nat_eq row.0 character) unbroken

-- ---- the characters of a list

-- the number of the character that a list gives a code; a code after the end of the list has none
abbrev pub number_at : List (Option ℕ) → ℕ → ℕ
number_at given code = unwrap_or (get_or given code None) no

-- the numbers of the characters that a list gives the 256 codes
unfoldable pub numbers_of : List (Option ℕ) → List ℕ
numbers_of given = map (number_at given) (range_with_len 0 256)

-- a number, if it is that of a character that isn't fixed
abbrev pub unless_fixed : ℕ → ℕ
unless_fixed number = cond (scalar number && not (is_fixed number)) number no

-- the character at a code: none at 10, which would end a line; at 32 the space, which separates words; and at
-- any other code the character of the list, unless it is a space, a no-break space or a soft hyphen
unfoldable pub given_at : List ℕ → ℕ → ℕ
given_at numbers code =
    cond (nat_eq code 10) no (cond (nat_eq code 32) 0x20 (unless_fixed (get_or numbers code no)))

-- the characters at the 256 codes
unfoldable pub given_characters : List ℕ → List ℕ
given_characters numbers = map (given_at numbers) (range_with_len 0 256)

-- ---- each character at one code

-- the lowest code of a character in a list by code, or the length of the list
abbrev pub lowest : List ℕ → ℕ → ℕ
lowest characters character = position_or_len (λ each. nat_eq each character) characters

-- whether a list has a character, and whether at the code that is its own number
abbrev pub is_listed : List ℕ → ℕ → Bool
is_listed characters character = is_some (position (λ each. nat_eq each character) characters)

abbrev pub is_at_own : List ℕ → ℕ → Bool
is_at_own characters character = nat_lt character (length characters) && nat_eq (get_or characters character no) character

-- whether a code sets the character there: the code that is the character's own number, if the character is there, and
-- otherwise its lowest code
abbrev pub is_place : List ℕ → ℕ → Bool
is_place characters code =
    let character = get_or characters code no in
    nat_eq character code || (not (is_at_own characters character) && nat_eq (lowest characters character) code)

-- whether a character is ' or `, which LaTeX sets as ’ and ‘, in a list that has the latter
abbrev pub is_quoted : List ℕ → ℕ → Bool
is_quoted characters character =
    (nat_eq character 0x27 && is_listed characters 0x2019) || (nat_eq character 0x60 && is_listed characters 0x2018)

-- the character at a code, if the code sets it
abbrev pub own_at : List ℕ → ℕ → ℕ
own_at characters code =
    let character = get_or characters code no in
    cond (is_place characters code && not (is_quoted characters character)) character no

-- each character at the code that sets it alone
unfoldable pub own_characters : List ℕ → List ℕ
own_characters characters = map (own_at characters) (range_with_len 0 (length characters))

-- the characters of an encoding that is made of these
abbrev pub vector_characters : List ℕ → List ℕ
vector_characters numbers = own_characters (given_characters numbers)

-- ---- characters that are set by other codes than their own

-- characters that are set as another one, if a list has only the other one
abbrev pub substitutes : List (ℕ × ℕ)
substitutes =
    (0x27, 0x2019)  -- ' as ’
    ∷ (0x60, 0x2018)  -- ` as ‘
    ∷ (0x2010, 0x2D)  -- hyphen as -
    ∷ (0x2011, 0x2D)  -- non-breaking hyphen as -
    ∷ (0x2012, 0x2013)  -- figure dash as –
    ∷ (0x2015, 0x2014)  -- horizontal bar as —
    ∷ []

-- the character beside another one in a list
abbrev pub character_beside : List (ℕ × ℕ) → ℕ → Option ℕ
character_beside [] character = None
character_beside (row ∷ rows) character = cond (nat_eq row.0 character) (Some row.1) (character_beside rows character)

-- the character as which this one is set if a list doesn't have it, if there is one
abbrev pub substitute_of : ℕ → Option ℕ
substitute_of character = character_beside substitutes character
