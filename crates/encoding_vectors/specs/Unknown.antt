-- The names of glyphs in a vector that have no character.
-- This project's own; the manual of dvips, section 6.3.1.5, for `.notdef`, which stands for no glyph.
use Rattle.std.specs.Prelude.{ℕ, Bool, ◌&&◌, not, List, bytes_eq, codes}
use Rattle.std.specs.List.{filter}
use Rattle.std.specs.Option.{is_none}
use Rattle.encoding_vectors.specs.Names.{character_of}
use Rattle.encoding_vectors.specs.Vectors.{names_of}

-- whether a name is that of a glyph, but has no character
unfoldable pub is_unknown : List ℕ → Bool
is_unknown name = not (bytes_eq name (codes ".notdef")) && is_none (character_of name)

-- the names in a vector that have no character, in the order of their codes
unfoldable pub unknown_names : List ℕ → List (List ℕ)
unknown_names text = filter is_unknown (names_of text)
