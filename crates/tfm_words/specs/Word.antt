-- The words of a TFM file, and the unsigned and the signed number in a word.
-- Public source: tftopl.web, sections 6, 8 and 9; tex.web, section 541.
use Rattle.std.specs.Prelude.{ℕ, ℤ, ◌*◌, List, take, drop}
use Rattle.std.specs.Int.{w32, cast_signed}
use Rattle.byteorder.specs.Endian.{big_number}

-- word i of a file, counted from 0: the four bytes from byte 4 * i
abbrev pub word_at : List ℕ → ℕ → List ℕ
word_at bytes i = take 4 (drop (4 * i) bytes)

-- the unsigned number in a word: its four bytes, the highest first
abbrev pub unsigned_of : List ℕ → ℕ
unsigned_of word = big_number 4 word

-- the signed number in a word: the 32 bits of its unsigned number, in two's complement
abbrev pub value_of : List ℕ → ℤ
value_of word = cast_signed w32 (unsigned_of word)
