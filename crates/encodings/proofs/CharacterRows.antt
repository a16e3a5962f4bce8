-- Worked rows: the characters at codes, computed from the definitions alone. They are those of LaTeX's guide to
-- encodings.
use Rattle.std.proofs.Common.{◌≡◌, Some, None, refl}
use Rattle.encodings.specs.declared.encoding.Encoding.TheVariants.{Ot1, T1, Ly1, Latin1}
use Rattle.encodings.specs.Tables.{ot1_characters, t1_characters, ly1_characters}
use Rattle.encodings.specs.Codes.{characters_of}
use Rattle.encodings.specs.Characters.{character_of}

-- –
ot1_en_dash : character_of Ot1 123 ≡ Some 0x2013
unfolding character_of characters_of ot1_characters
ot1_en_dash = refl

-- the ligature ff
ot1_ligature : character_of Ot1 11 ≡ None
unfolding character_of characters_of ot1_characters
ot1_ligature = refl

-- the codes of " and <: the one has ”, and the other one isn't that of ¡, which is made of two codes
ot1_straight_mark : character_of Ot1 34 ≡ Some 0x201D
unfolding character_of characters_of ot1_characters
ot1_straight_mark = refl

ot1_less_than : character_of Ot1 60 ≡ None
unfolding character_of characters_of ot1_characters
ot1_less_than = refl

-- a code above those of OT1
ot1_past_end : character_of Ot1 128 ≡ None
unfolding character_of characters_of ot1_characters
ot1_past_end = refl

-- ß
t1_sharp_s : character_of T1 255 ≡ Some 0xDF
unfolding character_of characters_of t1_characters
t1_sharp_s = refl

-- €
ly1_euro : character_of Ly1 1 ≡ Some 0x20AC
unfolding character_of characters_of ly1_characters
ly1_euro = refl

-- the soft hyphen
latin1_soft_hyphen : character_of Latin1 0xAD ≡ Some 0xAD
unfolding character_of characters_of
latin1_soft_hyphen = refl
