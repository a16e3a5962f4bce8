-- Worked rows, computed from the definitions alone. The codes are those that LaTeX sets.
use Rattle.std.proofs.Common.{◌≡◌, ◌+◌, true, false, [], ◌∷◌, Some, None, refl}
use lib.Utf8.{encode}
use Rattle.std.specs.Str.{chars, is_utf8}
use Rattle.std.specs.Str.Lossy.{utf8_valid_len}
use Rattle.encodings.specs.declared.encoding.Encoding.TheVariants.{Ot1, T1, Ly1, Latin1}
use Rattle.encodings.specs.Tables.{no, ot1_characters, t1_characters, ly1_characters, shared_others, ot1_others, t1_others, ly1_others}
use Rattle.encodings.specs.Codes.{codes_of, characters_of, given_codes, others_of}
use Rattle.encodings.specs.Vectors.{given_at, given_characters, numbers_of as given_numbers, own_at, own_characters}
use Rattle.encodings.specs.Lines.{elements_of, encoded, fault_in, numbers_of, places_of}
use Rattle.encodings.specs.Parts.{parts_of}

-- ---- single characters

-- ä
t1_accented : codes_of T1 0xE4 ≡ Some (228 ∷ [])
unfolding codes_of characters_of others_of t1_characters shared_others t1_others
t1_accented = refl

-- “
ot1_quotation_mark : codes_of Ot1 0x201C ≡ Some (92 ∷ [])
unfolding codes_of characters_of others_of ot1_characters shared_others ot1_others
ot1_quotation_mark = refl

-- ¡
ot1_exclamation_mark : codes_of Ot1 0xA1 ≡ Some (33 ∷ 96 ∷ [])
unfolding codes_of characters_of others_of ot1_characters shared_others ot1_others
ot1_exclamation_mark = refl

-- the straight quotation mark, at whose code OT1 has ”
ot1_straight_mark : codes_of Ot1 0x22 ≡ Some (34 ∷ [])
unfolding codes_of characters_of others_of ot1_characters shared_others ot1_others
ot1_straight_mark = refl

-- >, at whose code cmr10 has ¿
ot1_greater_than : codes_of Ot1 0x3E ≡ Some (62 ∷ [])
unfolding codes_of characters_of others_of ot1_characters shared_others ot1_others
ot1_greater_than = refl

-- a brace, which LaTeX reads as a command
ot1_brace : codes_of Ot1 0x7B ≡ None
unfolding codes_of characters_of others_of ot1_characters shared_others ot1_others
ot1_brace = refl

-- é, which LaTeX makes of an accent and a letter
ot1_accented : codes_of Ot1 0xE9 ≡ None
unfolding codes_of characters_of others_of ot1_characters shared_others ot1_others
ot1_accented = refl

-- ‰, which LaTeX takes from another font
t1_per_mille : codes_of T1 0x2030 ≡ None
unfolding codes_of characters_of others_of t1_characters shared_others t1_others
t1_per_mille = refl

-- Γ, which LaTeX doesn't declare
ot1_greek : codes_of Ot1 0x393 ≡ None
unfolding codes_of characters_of others_of ot1_characters shared_others ot1_others
ot1_greek = refl

-- €
ly1_euro : codes_of Ly1 0x20AC ≡ Some (1 ∷ [])
unfolding codes_of characters_of others_of ly1_characters shared_others ly1_others
ly1_euro = refl

-- ˙
ly1_dot : codes_of Ly1 0x2D9 ≡ Some (5 ∷ [])
unfolding codes_of characters_of others_of ly1_characters shared_others ly1_others
ly1_dot = refl

-- ---- lines

-- é“
t1_line : encoded T1 false (0xC3 ∷ 0xA9 ∷ 0xE2 ∷ 0x80 ∷ 0x9C ∷ []) ≡ 233 ∷ 16 ∷ []
unfolding encoded places_of numbers_of chars codes_of characters_of others_of t1_characters shared_others t1_others
t1_line = refl

-- the codes of the second of these with its offset, where the first one has none
ot1_elements : elements_of Ot1 false (0xC3 ∷ 0xA9 ∷ 0xE2 ∷ 0x80 ∷ 0x9C ∷ [])
    ≡ record { offset = 2; number = 92 } ∷ []
unfolding elements_of places_of chars codes_of characters_of others_of ot1_characters shared_others ot1_others
ot1_elements = refl

-- a no-break space
t1_space : encoded T1 false (0x61 ∷ 0xC2 ∷ 0xA0 ∷ 0x62 ∷ []) ≡ 97 ∷ 32 ∷ 98 ∷ []
unfolding encoded places_of numbers_of chars codes_of characters_of others_of t1_characters shared_others t1_others
t1_space = refl

-- a soft hyphen between two letters, without a code of its own
t1_soft_hyphen : parts_of (encoded T1 false (0x66 ∷ 0xC2 ∷ 0xAD ∷ 0x69 ∷ []))
    ≡ record { codes = 102 ∷ []; gap = Some 0xAD } ∷ record { codes = []; gap = Some 0xAD } ∷ record { codes = 105 ∷ []; gap = None } ∷ []
unfolding encoded places_of numbers_of chars codes_of characters_of others_of t1_characters shared_others t1_others
t1_soft_hyphen = refl

-- a non-breaking hyphen, and a hyphen after it
t1_hyphens : parts_of (encoded T1 false (0xE2 ∷ 0x80 ∷ 0x91 ∷ 0x2D ∷ []))
    ≡ record { codes = []; gap = Some 0xAD } ∷ record { codes = 45 ∷ []; gap = Some 0xAD } ∷ record { codes = 45 ∷ []; gap = None } ∷ []
unfolding encoded places_of numbers_of chars codes_of characters_of others_of t1_characters shared_others t1_others
t1_hyphens = refl

-- a byte order mark in the first line, and in a later one
first_line : elements_of Latin1 true (0xEF ∷ 0xBB ∷ 0xBF ∷ 0x61 ∷ []) ≡ record { offset = 3; number = 97 } ∷ []
unfolding elements_of places_of chars codes_of characters_of others_of
first_line = refl

later_line : encoded Latin1 false (0xEF ∷ 0xBB ∷ 0xBF ∷ 0x61 ∷ []) ≡ (256 + 0xFEFF) ∷ 97 ∷ []
unfolding encoded places_of numbers_of chars codes_of characters_of others_of
later_line = refl

-- a byte that begins no character, and a character that is cut
no_character : fault_in (0x61 ∷ 0xFF ∷ 0x62 ∷ []) ≡ Some 1
unfolding fault_in is_utf8 utf8_valid_len chars encode
no_character = refl

cut_character : fault_in (0x61 ∷ 0x62 ∷ 0xE2 ∷ 0x80 ∷ []) ≡ Some 2
unfolding fault_in is_utf8 utf8_valid_len chars encode
cut_character = refl

-- ---- encodings that are made of characters

-- A at codes 1 and 2
lowest_code : given_codes (None ∷ Some 0x41 ∷ Some 0x41 ∷ []) 0x41 ≡ Some (1 ∷ [])
unfolding given_numbers given_characters given_at own_characters
lowest_code = refl

no_second_code : own_at (given_characters (given_numbers (None ∷ Some 0x41 ∷ Some 0x41 ∷ []))) 2 ≡ no
unfolding given_numbers given_characters given_at own_characters
no_second_code = refl

-- the space at code 0, and nothing at 32
space_alone : given_codes (Some 0x20 ∷ []) 0x20 ≡ Some (32 ∷ [])
unfolding given_numbers given_characters given_at own_characters
space_alone = refl

space_kept : own_at (given_characters (given_numbers (Some 0x20 ∷ []))) 32 ≡ 0x20
unfolding given_numbers given_characters given_at own_characters
space_kept = refl

-- the line feed at code 0, and A at code 10
feed_listed : given_codes (Some 10 ∷ []) 10 ≡ Some (0 ∷ [])
unfolding given_numbers given_characters given_at own_characters
feed_listed = refl

never_ten : given_codes (None ∷ None ∷ None ∷ None ∷ None ∷ None ∷ None ∷ None ∷ None ∷ None ∷ Some 0x41 ∷ []) 0x41 ≡ None
unfolding given_numbers given_characters given_at own_characters
never_ten = refl

-- a no-break space and a soft hyphen, also if they are at codes 0 and 1
no_break_space : given_codes [] 0xA0 ≡ Some (32 ∷ [])
unfolding given_numbers given_characters given_at own_characters
no_break_space = refl

no_break_space_listed : given_codes (Some 0xA0 ∷ []) 0xA0 ≡ Some (32 ∷ [])
unfolding given_numbers given_characters given_at own_characters
no_break_space_listed = refl

no_break_space_at_no_code : own_at (given_characters (given_numbers (Some 0xA0 ∷ []))) 0 ≡ no
unfolding given_numbers given_characters given_at own_characters
no_break_space_at_no_code = refl

soft_hyphen : given_codes [] 0xAD ≡ Some []
unfolding given_numbers given_characters given_at own_characters
soft_hyphen = refl

soft_hyphen_listed : given_codes (None ∷ Some 0xAD ∷ []) 0xAD ≡ Some []
unfolding given_numbers given_characters given_at own_characters
soft_hyphen_listed = refl

-- a character at code 1 and at its own number, 3
own_number : given_codes (None ∷ Some 3 ∷ None ∷ Some 3 ∷ []) 3 ≡ Some (3 ∷ [])
unfolding given_numbers given_characters given_at own_characters
own_number = refl

-- ' where ’ is at code 1, also where ' itself is at code 2
straight_mark : given_codes (None ∷ Some 0x2019 ∷ []) 0x27 ≡ Some (1 ∷ [])
unfolding given_numbers given_characters given_at own_characters
straight_mark = refl

straight_mark_listed : given_codes (None ∷ Some 0x2019 ∷ Some 0x27 ∷ []) 0x27 ≡ Some (1 ∷ [])
unfolding given_numbers given_characters given_at own_characters
straight_mark_listed = refl

-- ’ where only ' is at a code
curved_mark : given_codes (Some 0x27 ∷ []) 0x2019 ≡ None
unfolding given_numbers given_characters given_at own_characters
curved_mark = refl

-- ` where ‘ is at codes 1 and 2
grave_accent : given_codes (None ∷ Some 0x2018 ∷ Some 0x2018 ∷ []) 0x60 ≡ Some (1 ∷ [])
unfolding given_numbers given_characters given_at own_characters
grave_accent = refl

-- ` at code 0, and ‘ at code 1
grave_accent_listed : given_codes (Some 0x60 ∷ Some 0x2018 ∷ []) 0x60 ≡ Some (1 ∷ [])
unfolding given_numbers given_characters given_at own_characters
grave_accent_listed = refl

-- both hyphens where - is at code 0, the figure dash where – is, and the horizontal bar where — is
hyphen : given_codes (Some 0x2D ∷ []) 0x2010 ≡ Some (0 ∷ [])
unfolding given_numbers given_characters given_at own_characters
hyphen = refl

non_breaking_hyphen : given_codes (Some 0x2D ∷ []) 0x2011 ≡ Some (0 ∷ [])
unfolding given_numbers given_characters given_at own_characters
non_breaking_hyphen = refl

figure_dash : given_codes (Some 0x2013 ∷ []) 0x2012 ≡ Some (0 ∷ [])
unfolding given_numbers given_characters given_at own_characters
figure_dash = refl

horizontal_bar : given_codes (Some 0x2014 ∷ []) 0x2015 ≡ Some (0 ∷ [])
unfolding given_numbers given_characters given_at own_characters
horizontal_bar = refl

-- a hyphen where neither is at a code
no_hyphen : given_codes (Some 0x41 ∷ []) 0x2010 ≡ None
unfolding given_numbers given_characters given_at own_characters
no_hyphen = refl
