-- The names of the encodings.
-- This project's own; those of OT1, T1 and LY1 are LaTeX's, as LaTeX writes them or in lower case.
use Rattle.std.specs.Prelude.{ℕ, List, [], ◌∷◌, ◌||◌, Option, bytes_eq, codes}
use Rattle.std.specs.List.{find}
use Rattle.encodings.specs.declared.encoding.Encoding.{Encoding}
use Rattle.encodings.specs.declared.encoding.Encoding.TheVariants.{Ot1, T1, Ly1, Latin1, Vector}

-- the name of an encoding; all vectors have one name, by which none is found
abbrev pub name_of : Encoding → List ℕ
name_of Ot1 = codes "ot1"
name_of T1 = codes "t1"
name_of Ly1 = codes "ly1"
name_of Latin1 = codes "latin1"
name_of (Vector vector) = codes "vector"

-- the same name in capitals, for an encoding that has a name of its own
abbrev pub capital_name_of : Encoding → List ℕ
capital_name_of Ot1 = codes "OT1"
capital_name_of T1 = codes "T1"
capital_name_of Ly1 = codes "LY1"
capital_name_of Latin1 = codes "LATIN1"
capital_name_of (Vector vector) = codes "vector"

-- the encodings that have a name of their own
abbrev pub encodings : List Encoding
encodings = Ot1 ∷ T1 ∷ Ly1 ∷ Latin1 ∷ []

-- the encoding of a name, in lower case or in capitals, if there is one
abbrev pub encoding_named : List ℕ → Option Encoding
encoding_named name =
    find (λ encoding. bytes_eq name (name_of encoding) || bytes_eq name (capital_name_of encoding)) encodings
