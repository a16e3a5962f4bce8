-- Laws of the tables.
-- This project's own.
use Rattle.std.specs.Prelude.{◌≡◌, ◌≢◌, ◌⊎◌, ℕ, ◌<◌, ◌≤◌, ◌==◌, true, List, [], ◌∷◌, length, map, flat_map, get_or, nat_eq, not, Some, None}
use Rattle.std.specs.Char.{is_ascii_alphanumeric, len_utf8}
use Rattle.std.specs.List.{All, list_all, list_any}
use Rattle.std.specs.Option.{unwrap_or}
use Rattle.encodings.specs.declared.encoding.Encoding.{Encoding}
use Rattle.encodings.specs.Names.{encoding_named, name_of}
use Rattle.encodings.specs.Tables.{no}
use Rattle.encodings.specs.Codes.{codes_beside, codes_of, characters_of, others_of}
use Rattle.encodings.specs.Lines.{is_code, set_apart}

-- the character at a code
abbrev pub character_at : Encoding → ℕ → ℕ
character_at encoding code = get_or (characters_of encoding) code no

-- whether a number is in a list
abbrev pub Has : List ℕ → ℕ → Type 0
Has numbers number = list_any (λ each. each == number) numbers ≡ true

-- a character that is set by its own code: it is at a code, and isn't listed with other codes
pub record IsOwn (encoding : Encoding) (character : ℕ) : Type 0 where
  pub is_character : character ≢ no
  pub at_code : Has (characters_of encoding) character
  pub not_other : codes_beside (others_of encoding) character ≡ None

-- each code of a table comes from the character at this code
abbrev pub ComesFromItsCharacter : Encoding → ℕ → Type 0
ComesFromItsCharacter encoding code =
    code < length (characters_of encoding) → IsOwn encoding (character_at encoding code)
    → codes_of encoding (character_at encoding code) ≡ Some (code ∷ [])

-- the codes of a text, and the characters at codes
abbrev pub text_codes : Encoding → List ℕ → List ℕ
text_codes encoding text = flat_map (λ character. unwrap_or (codes_of encoding character) []) text

abbrev pub characters_at : Encoding → List ℕ → List ℕ
characters_at encoding codes = map (character_at encoding) codes

-- a text of characters that are set by their own codes comes back if it is encoded and decoded
abbrev pub ComesBack : Encoding → List ℕ → Type 0
ComesBack encoding text = All (IsOwn encoding) text → characters_at encoding (text_codes encoding text) ≡ text

-- in an encoding that has a name of its own, a character that is listed with other codes isn't the character at any of
-- them, and doesn't come back
abbrev pub LosesOthers : Encoding → Type 0
LosesOthers encoding =
    encoding_named (name_of encoding) ≡ Some encoding
    → list_all (λ row. not (list_any (λ code. nat_eq (character_at encoding code) row.0) row.1)) (others_of encoding) ≡ true

-- in an encoding that has a name of its own, an ASCII letter or digit is its own code
abbrev pub IsItself : Encoding → ℕ → Type 0
IsItself encoding character =
    encoding_named (name_of encoding) ≡ Some encoding → is_ascii_alphanumeric character ≡ true
    → codes_of encoding character ≡ Some (character ∷ [])

-- only the line feed has code 10
abbrev pub KeepsFeed : Encoding → ℕ → List ℕ → Type 0
KeepsFeed encoding character codes =
    character < no → codes_of encoding character ≡ Some codes → Has codes 10 → character ≡ 10

-- only the space and the no-break space have code 32
abbrev pub KeepsSpace : Encoding → ℕ → List ℕ → Type 0
KeepsSpace encoding character codes =
    character < no → codes_of encoding character ≡ Some codes → Has codes 32
    → (character ≡ 32) ⊎ (character ≡ 0xA0)

-- a character has at most as many codes and breaks as bytes
abbrev pub HasFewCodes : Encoding → ℕ → List ℕ → Type 0
HasFewCodes encoding character codes =
    codes_of encoding character ≡ Some codes → length (set_apart character codes) ≤ len_utf8 character

-- each code is a byte
abbrev pub AreBytes : Encoding → ℕ → List ℕ → Type 0
AreBytes encoding character codes = codes_of encoding character ≡ Some codes → list_all is_code codes ≡ true
