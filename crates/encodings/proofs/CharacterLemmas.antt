-- The characters by code: the tables of the code are those of the definitions, and each of their numbers is a
-- character or marks a code without one.
use Rattle.std.proofs.Common.{◌≡◌, ℕ, ◌<◌, ◌≤◌, Bool, true, false, ◌||◌, if◌then◌else◌, Option, Some, None, length, get_or, Bor, arith, refl, ap, sym, subst, ◌∙◌}
use lib.Utf8.{scalar}
use Rattle.std.specs.Prelude.{nat_eq}
use Rattle.std.specs.Char.{IsScalar}
use Rattle.std.specs.List.{list_all}
use Rattle.std.specs.Option.{SomeIff}
use Rattle.std.proofs.lemmas.Bool.{eqb-true}
use Rattle.std.proofs.lemmas.List.{get_or_past}
use Rattle.std.proofs.lemmas.List.Folds.{list_all_at}
use Rattle.std.proofs.lemmas.Grind.{get_or_default_zero}
use Rattle.encodings.specs.declared.encoding.Encoding.{Encoding}
use Rattle.encodings.specs.declared.encoding.Encoding.TheVariants.{Ot1, T1, Ly1, Latin1, Vector}
use Rattle.encodings.specs.Tables.{no, ot1_characters, t1_characters, ly1_characters}
use Rattle.encodings.specs.Codes.{characters_of}
use Rattle.encodings.specs.Characters.{character_of}
use Rattle.encodings.specs.CharacterTables.{characters_in}
use Rattle.encodings.specs.Laws.{character_at}
use Rattle.encodings.specs.Lookup.{is_table}
use Rattle.encodings.specs.declared.vector.Vector.{Vector as VectorValue}
use Rattle.encodings.specs.Vectors.{vector_characters}
use Rattle.encodings.proofs.VectorLemmas.{vector_length, vector_listed}

-- the tables are those of the definitions
tables_agree : (encoding : Encoding) → is_table encoding ≡ true → characters_in encoding ≡ characters_of encoding
unfolding characters_in characters_of ot1_characters t1_characters ly1_characters
tables_agree Ot1 table = refl
tables_agree T1 table = refl
tables_agree Ly1 table = refl
tables_agree Latin1 table = refl
tables_agree (Vector vector) table = cc

-- ---- their numbers

-- whether a number is a character, or marks a code without one
is_listed : ℕ → Bool
is_listed number = nat_eq number no || scalar number

all_listed : (encoding : Encoding) → is_table encoding ≡ true → list_all is_listed (characters_of encoding) ≡ true
unfolding is_listed characters_of ot1_characters t1_characters ly1_characters
all_listed Ot1 table = refl
all_listed T1 table = refl
all_listed Ly1 table = refl
all_listed Latin1 table = refl
all_listed (Vector vector) table = cc

listed_at : (encoding : Encoding) (code : ℕ) → is_table encoding ≡ true → code < length (characters_of encoding) → is_listed (character_at encoding code) ≡ true
listed_at encoding code table within = by (is_listed (character_at encoding code)) refl
  where
    by : (b : Bool) → is_listed (character_at encoding code) ≡ b → b ≡ true
    by true is = refl
    by false is = absurd (cc (list_all_at is_listed (characters_of encoding) code no within is, all_listed encoding table))

-- ---- the character at a code

-- a code after the last one has no character
pub past_end : (encoding : Encoding) (code : ℕ) → is_table encoding ≡ true → length (characters_in encoding) ≤ code → character_of encoding code ≡ None
unfolding character_of
past_end encoding code table past =
    let past_defined : length (characters_of encoding) ≤ code = subst (λ l. length l ≤ code) (tables_agree encoding table) past in
    rw (get_or_past (characters_of encoding) code no past_defined) refl

-- the number in the table, if it is a character
made_of : (number : ℕ) (made : Option ℕ) → nat_eq number no || scalar number ≡ true → SomeIff made (IsScalar number) number
    → made ≡ (if nat_eq number no then None else Some number)
made_of number (Some character) listed is = by (nat_eq number no) refl
  where
    by : (b : Bool) → nat_eq number no ≡ b → Some character ≡ (if b then None else Some number)
    by true same = cc (subst (λ n. scalar n ≡ true) (eqb-true number no same) is.0)
    by false same = ap Some is.1
made_of number None listed is = by (nat_eq number no) refl listed
  where
    by : (b : Bool) → nat_eq number no ≡ b → b || scalar number ≡ true → None ≡ (if b then None else Some number)
    by true same listed = refl
    by false same listed = absurd (is listed)

in_definition : (encoding : Encoding) (code number : ℕ) (made : Option ℕ) → is_table encoding ≡ true → code < length (characters_of encoding)
    → number ≡ get_or (characters_of encoding) code 0 → SomeIff made (IsScalar number) number → made ≡ character_of encoding code
unfolding character_of is_listed
in_definition encoding code number made table within at is =
    let same : number ≡ character_at encoding code = at ∙ sym (get_or_default_zero (characters_of encoding) code no within) in
    subst (λ n. made ≡ (if nat_eq n no then None else Some n)) same
    (made_of number made (subst (λ n. nat_eq n no || scalar n ≡ true) (sym same) (listed_at encoding code table within)) is)

pub made_at : (encoding : Encoding) (code number : ℕ) (made : Option ℕ) → is_table encoding ≡ true → code < length (characters_in encoding)
    → number ≡ get_or (characters_in encoding) code 0 → SomeIff made (IsScalar number) number → made ≡ character_of encoding code
made_at encoding code number made table within at is =
    in_definition encoding code number made table (subst (λ l. code < length l) (tables_agree encoding table) within)
    (subst (λ l. number ≡ get_or l code 0) (tables_agree encoding table) at) is

pub ruleset found = (past_end, made_at)

-- the character at a code of a vector
pub made_in_vector : (vector : Bor VectorValue) (code number : ℕ) (made : Option ℕ) → code < 256 → vector.now.characters ≡ vector_characters vector.now.characters
    → number ≡ get_or vector.now.characters code 0 → SomeIff made (IsScalar number) number → made ≡ character_of (Vector vector) code
unfolding character_of characters_of
made_in_vector vector code number made below own at is =
    let within : code < length vector.now.characters = omega (arith, ap length own, vector_length vector.now.characters) in
    let same : number ≡ get_or (vector_characters vector.now.characters) code no =
    at ∙ sym (get_or_default_zero vector.now.characters code no within) ∙ ap (λ l. get_or l code no) own in
    subst (λ n. made ≡ (if nat_eq n no then None else Some n)) same
    (made_of number made (subst (λ n. nat_eq n no || scalar n ≡ true) (sym same) (vector_listed vector.now.characters code below)) is)

pub ruleset of_vector = (made_in_vector)
