-- The single codes of the characters of a vector as they are looked up. Their order is that of Lookup.
-- This project's own representation; Codes defines the codes.
use Rattle.std.specs.Prelude.{ℕ, ◌+◌, ◌-◌, List, [], ◌∷◌, map, Option, Some, None, cond, nat_lt}
use Rattle.std.specs.List.{range_with_len}
use Rattle.encodings.specs.Codes.{is_apart, listed_codes}

-- the character whose entry has an index
abbrev pub character_indexed : ℕ → ℕ
character_indexed index = cond (nat_lt index 384) index (0x2000 + (index - 384))

-- the code of a character that has a single one; 256 stands for none or several
abbrev pub single_of : Option (List ℕ) → ℕ
single_of None = 256
single_of (Some []) = 256
single_of (Some (code ∷ [])) = code
single_of (Some (code ∷ other ∷ codes)) = 256

-- the entry of a character where the characters by code are these; one that is set apart has no single code
abbrev pub single_with : List ℕ → ℕ → ℕ
single_with characters character = cond (is_apart character) 256 (single_of (listed_codes characters character))

-- the entry with an index
abbrev pub single_at : List ℕ → ℕ → ℕ
single_at characters index = single_with characters (character_indexed index)

-- all entries
unfoldable pub singles_of : List ℕ → List ℕ
singles_of characters = map (single_at characters) (range_with_len 0 448)
