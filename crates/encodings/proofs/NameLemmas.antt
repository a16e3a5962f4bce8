-- Texts that are the name of no encoding.
use Rattle.std.proofs.Common.{◌≡◌, ℕ, true, false, List, None, refl, sym, subst}
use Rattle.std.specs.Str.{bytes_eq, chars, is_utf8, IsUtf8}
use lib.Utf8.{encode}
use Rattle.std.proofs.lemmas.Bool.{false_from_ne_true}
use Rattle.std.proofs.lemmas.Slice.Eq.{bytes_eq-Decides}
use Rattle.std.proofs.lemmas.Str.{IsUtf8-from_is_utf8}
use Rattle.encodings.specs.declared.encoding.Encoding.TheVariants.{Ot1, T1, Ly1, Latin1}
use Rattle.encodings.specs.Names.{capital_name_of, encoding_named, name_of}

pub other : (name text : List ℕ) → (name ≡ text → ⊥) → bytes_eq name text ≡ false
other name text differ = false_from_ne_true (bytes_eq name text) (λ same. differ ((bytes_eq-Decides name text).0 same))

-- a name is UTF-8
pub other_name : (name text : List ℕ) → is_utf8 text ≡ true → ¬ (IsUtf8 name) → bytes_eq name text ≡ false
other_name name text utf8 bad = other name text (λ is. bad (subst IsUtf8 (sym is) (IsUtf8-from_is_utf8 text utf8)))

pub no_encoding : (name : List ℕ) → ¬ (IsUtf8 name) → encoding_named name ≡ None
unfolding is_utf8 chars encode
no_encoding name bad =
    rw (
      other_name name (name_of Ot1) refl bad,
      other_name name (name_of T1) refl bad,
      other_name name (name_of Ly1) refl bad,
      other_name name (name_of Latin1) refl bad,
      other_name name (capital_name_of Ot1) refl bad,
      other_name name (capital_name_of T1) refl bad,
      other_name name (capital_name_of Ly1) refl bad,
      other_name name (capital_name_of Latin1) refl bad,
    ) refl
