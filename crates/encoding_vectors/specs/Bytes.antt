-- The classes of bytes.
-- Public source: PostScript Language Reference, third edition, section 3.2.1 (white space and special
-- characters).
use Rattle.std.specs.Prelude.{ℕ, Bool, ◌||◌, not, nat_eq, [], ◌∷◌, codes}
use Rattle.std.specs.List.{list_any}

-- white space: NUL, TAB, LF, FF, CR and the space
unfoldable pub is_white : ℕ → Bool
is_white byte = list_any (nat_eq byte) (0 ∷ 9 ∷ 10 ∷ 12 ∷ 13 ∷ 32 ∷ [])

-- the special characters
unfoldable pub is_special : ℕ → Bool
is_special byte = list_any (nat_eq byte) (codes "()<>[]{}/%")

-- any other byte is a regular character
unfoldable pub is_regular : ℕ → Bool
is_regular byte = not (is_white byte || is_special byte)

-- LF and CR end a line
abbrev pub ends_line : ℕ → Bool
ends_line byte = nat_eq byte 10 || nat_eq byte 13

-- the characters after which regular characters belong to the same token: the regular ones, and the slash,
-- with which a literal name begins
abbrev pub is_continued : ℕ → Bool
is_continued byte = is_regular byte || nat_eq byte 47
