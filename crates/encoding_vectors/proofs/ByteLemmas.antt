-- The classes of bytes exclude one another.
use Rattle.std.proofs.Common.{◌≡◌, ℕ, Bool, true, false, ◌&&◌, ◌||◌, not, refl, subst}
use Rattle.std.specs.Prelude.{nat_eq}
use Rattle.std.proofs.lemmas.Bool.{eqb-true}
use Rattle.encoding_vectors.specs.Bytes.{is_white, is_special, is_regular, is_continued, ends_line}
use Rattle.encoding_vectors.specs.Tokens.{in_comment}
use Rattle.encoding_vectors.specs.Reading.{is_blank}

-- the space is white, and no regular character
pub space_white : is_white 32 ≡ true
unfolding is_white
space_white = refl

pub space_other : is_regular 32 ≡ false
unfolding is_regular is_white
space_other = refl

slash_not_white : is_white 47 ≡ false
unfolding is_white
slash_not_white = refl

percent_other : is_regular 37 ≡ false
unfolding is_regular is_white is_special
percent_other = refl

-- a regular character isn't white
pub regular_not_white : (byte : ℕ) → is_regular byte ≡ true → is_white byte ≡ false
unfolding is_regular
regular_not_white byte regular = by (is_white byte) regular
  where
    by : (b : Bool) → not (b || is_special byte) ≡ true → b ≡ false
    by true is = cc
    by false is = refl

-- white space isn't continued
pub white_ends : (byte : ℕ) → is_white byte ≡ true → is_continued byte ≡ false
unfolding is_regular
white_ends byte white = by (nat_eq byte 47) refl
  where
    by : (b : Bool) → nat_eq byte 47 ≡ b → not (is_white byte || is_special byte) || nat_eq byte 47 ≡ false
    by true slash = absurd (cc (subst (λ n. is_white n ≡ true) (eqb-true byte 47 slash) white, slash_not_white))
    by false slash = rw (white, slash) refl

-- the ends of lines are white
pub line_end_white : (byte : ℕ) → ends_line byte ≡ true → is_white byte ≡ true
unfolding is_white
line_end_white byte ends = by (nat_eq byte 10) refl (nat_eq byte 13) refl
  where
    by : (b : Bool) → nat_eq byte 10 ≡ b → (c : Bool) → nat_eq byte 13 ≡ c → is_white byte ≡ true
    by true is c _ = rw (eqb-true byte 10 is) refl
    by false is true also = rw (eqb-true byte 13 also) refl
    by false is false also = absurd (cc (rw (is, also) at ends))

-- a regular character outside a comment begins none
pub regular_outside : (byte : ℕ) → is_regular byte ≡ true → in_comment false byte ≡ false
regular_outside byte regular = by (nat_eq byte 37) refl
  where
    by : (b : Bool) → nat_eq byte 37 ≡ b → b && not (ends_line byte) ≡ false
    by true percent = absurd (cc (subst (λ n. is_regular n ≡ true) (eqb-true byte 37 percent) regular, percent_other))
    by false percent = refl

-- ---- bytes that are neither white nor in a comment

pub either : (a b : Bool) → a || b ≡ false → (a ≡ false) × (b ≡ false)
either true b is = cc
either false b is = (refl, is)

pub seen_outside : (before : Bool) (byte : ℕ) → is_blank before byte ≡ false → in_comment before byte ≡ false
seen_outside before byte seen = (either (in_comment before byte) (is_white byte) seen).0

pub seen_not_white : (before : Bool) (byte : ℕ) → is_blank before byte ≡ false → is_white byte ≡ false
seen_not_white before byte seen = (either (in_comment before byte) (is_white byte) seen).1

-- the byte before is in no comment
pub seen_begins : (before : Bool) (byte : ℕ) → is_blank before byte ≡ false → before ≡ false
seen_begins true byte seen = by (ends_line byte) refl
  where
    by : (b : Bool) → ends_line byte ≡ b → true ≡ false
    by true ends = absurd (cc (line_end_white byte ends, seen_not_white true byte seen))
    by false ends = absurd (cc (rw ends at (seen_outside true byte seen)))
seen_begins false byte seen = refl
